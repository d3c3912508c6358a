use Rattle.std.proofs.Common.{ℕ, List, nat_cmp, ap, ◌∙◌}
use Rattle.std.specs.FinSet as sets
use Rattle.std.specs.FinSet.{FinSet}
use Rattle.acl_entry.proofs.label.Subject.from_groups.Goals as goal

pub returns : goal.returns
returns c =
    let copied = c.in_ok-to_vec.ensures.items_if_clones_equal (λ x y e. e) in
    c.new.ensures
    ∙ ap (λ (g : FinSet nat_cmp). record { uid = c.args.uid; groups = g })
    (c.in_ok-rising.ensures.set ∙ ap (λ (ids : List ℕ). sets.from_list {R = nat_cmp} ids) copied)
