use Rattle.std.proofs.Common.{true, false, sym, subst}
use Rattle.acl_people.specs.Kept.{notes_of, AreSorted}
use Rattle.acl_people.proofs.name_table.NameTable.of.Goals as goal

pub invariant_of-result : goal.invariant_of-result
invariant_of-result g c = (
  subst (λ es. AreSorted (notes_of true es) c.in_ok-by_id.by_id.items) (sym c.in_ok-names.ensures)
      (subst (λ ns. AreSorted ns c.in_ok-by_id.by_id.items) c.in_ok-notes_of.ensures c.in_ok-by_id.ensures),
  subst (λ es. AreSorted (notes_of false es) c.in_ok-shown.shown.items) (sym c.in_ok-names.ensures)
      (subst (λ ns. AreSorted ns c.in_ok-shown.shown.items) c.in_ok-notes_of-2.ensures c.in_ok-shown.ensures),
)
