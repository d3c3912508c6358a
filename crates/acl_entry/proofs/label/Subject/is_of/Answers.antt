use Rattle.std.proofs.Common.{ℕ, List, nat_eq, sym, ap, subst, ◌∙◌}
use Rattle.std.specs.List.{list_any}
use Rattle.std.specs.List.Sorted.{IsStrictlyIncreasing}
use Rattle.std.specs.FinSet as sets
use Rattle.std.specs.FinSet.{contains-from_list_nat}
use Rattle.acl_entry.specs.Person.{Person}
use Rattle.acl_entry.proofs.Groups.{is_ok-searched}
use Rattle.acl_entry.proofs.label.Subject.is_of.Goals as goal

pub returns : goal.returns
returns c =
    let groups = c.self.inside.groups.items in
    let rising = subst IsStrictlyIncreasing (sym c.deref.ensures.value) c.self.invariant in
    c.is_ok.ensures.value
    ∙ is_ok-searched c.deref.result.now rising c.args.group c.binary_search.result c.binary_search.ensures.position
    ∙ ap (λ (gs : List ℕ). list_any (λ y. nat_eq y c.args.group) gs) c.deref.ensures.value
    ∙ sym (contains-from_list_nat groups c.args.group)
    ∙ ap (λ (u : Person). sets.contains u.groups c.args.group) c.self.view_is
