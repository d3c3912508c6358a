use Rattle.std.proofs.Common.{◌≡◌, true, sym, ap, ◌∙◌, arith}
use Rattle.acl_text.specs.declared.fault.Which.TheVariants.{Access}
use Rattle.acl_edit.specs.Parts.{part, names}
use Rattle.acl_edit.specs.Rooms.{size}
use Rattle.acl_edit.proofs.Sizes.{none_left, size-worked}
use Rattle.acl_edit.proofs.change.ChangeRef.edit_access.Goals as goal

pub returns-in_err-lost : goal.returns-in_err-lost
returns-in_err-lost c =
    none_left _ c.from_residual.result _ _ c.from_residual.ensures.1 (λ short.
    let named : names (part c.args.self.now Access) ≡ true = sym c.names.ensures ∙ c.if-names.true in
    c.in_err-lost.ensures.list (omega (arith, short named)))

pub returns-in_err-complete_mask : goal.returns-in_err-complete_mask
returns-in_err-complete_mask c =
    none_left _ c.from_residual-in_err-complete_mask.result _ _ c.from_residual-in_err-complete_mask.ensures.1 (λ short.
    let named : names (part c.args.self.now Access) ≡ true = sym c.names.ensures ∙ c.if-names.true in
    c.in_err-complete_mask.ensures (omega (arith, short named, ap size c.in_ok-lost.ensures.list, size-worked c.args.x (part c.args.self.now Access) c.args.draft.now)))
