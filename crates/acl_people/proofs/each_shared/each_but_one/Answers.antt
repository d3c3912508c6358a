use Rattle.std.proofs.Common.{map, slice_set, ap, ◌∙◌}
use Rattle.std.proofs.lemmas.List.{map-set}
use Rattle.acl_names.proofs.Basics.{same_values}
use Rattle.acl_people.proofs.each_shared.each_but_one.Goals as goal

pub returns : goal.returns
returns g c =
    map-set (λ i. i.value) c.in_ok-all.all.items c.args.at c.in_ok-item.item
    ∙ ap (λ items. slice_set items c.args.at c.in_ok-item.item.value) (same_values (λ i. i.value) c.args.items.now c.in_ok-all.all.items c.in_ok-all.ensures.ok)
    ∙ ap (λ item. slice_set (map (λ i. i.value) c.args.items.now) c.args.at item) c.in_ok-item.ensures.ok
