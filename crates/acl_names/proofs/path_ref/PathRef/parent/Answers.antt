use Rattle.std.proofs.Common.{ap, sym, subst, ◌∙◌}
use Rattle.acl_names.specs.Packed.{borrowed_names, IsBorrowedForm}
use Rattle.acl_names.specs.Below.{parent}
use Rattle.acl_names.proofs.Tops.{parts_parent, parts_valid}
use Rattle.acl_names.proofs.path_ref.PathRef.parent.Goals as goal

pub of_parts-requires : goal.of_parts-requires
of_parts-requires c = parts_valid (λ v. v.items) c.in-Parts.parts.now c.all_but_last.result.now c.all_but_last.ensures (subst IsBorrowedForm c.in-Parts.is c.self.invariant)

pub returns-in-Parts : goal.returns-in-Parts
returns-in-Parts c =
    c.of_parts.ensures
    ∙ parts_parent (λ v. v.items) c.in-Parts.parts.now c.all_but_last.result.now c.all_but_last.ensures
    ∙ ap parent (ap borrowed_names (sym c.in-Parts.is) ∙ c.self.view_is)
