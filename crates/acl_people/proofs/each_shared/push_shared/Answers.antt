use Rattle.std.proofs.Common.{◌++◌, ◌∷◌, [], map, ap, ◌∙◌}
use Rattle.std.proofs.lemmas.List.{map_push}
use Rattle.acl_people.proofs.each_shared.push_shared.Goals as goal

pub returns : goal.returns
returns g c =
    ap (λ items. map (λ i. i.value) items) c.in_ok-push.ensures.items
    ∙ map_push (λ i. i.value) c.args.all.now.items c.in_ok-new.field-0
    ∙ ap (λ item. map (λ i. i.value) c.args.all.now.items ++ item ∷ []) c.in_ok-new.ensures.ok
