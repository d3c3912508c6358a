use Rattle.std.proofs.Common.{◌≡◌, ◌≤◌, ◌+◌, true, sym, ap, ◌∙◌, arith}
use Rattle.acl_text.specs.declared.fault.Which.TheVariants.{Default}
use Rattle.acl_edit.specs.Parts.{part, names}
use Rattle.acl_edit.specs.Rooms.{size}
use Rattle.acl_edit.proofs.Sizes.{none_left, size-worked, size-fill_from}
use Rattle.acl_edit.proofs.change.ChangeRef.edit_default.Goals as goal
use Rattle.acl_edit.proofs.change.ChangeRef.edit_default.Goals.{then-puts+in_ok-fill_from, else-puts}

pub returns-in_err-lost : goal.returns-in_err-lost
returns-in_err-lost c =
    none_left _ c.from_residual.result _ _ c.from_residual.ensures.1 (λ short.
    let named : names (part c.args.self.now Default) ≡ true = sym c.names.ensures ∙ c.if-names.true in
    c.in_err-lost.ensures.list (omega (arith, short named)))

pub returns-in_err-fill_from : goal.returns-in_err-fill_from
returns-in_err-fill_from c =
    none_left _ c.from_residual-in_err-fill_from.result _ _ c.from_residual-in_err-fill_from.ensures.1 (λ short.
    let named : names (part c.args.self.now Default) ≡ true = sym c.names.ensures ∙ c.if-names.true in
    c.in_err-fill_from.ensures (omega (arith, short named, ap size c.in_ok-lost.ensures.list, size-worked c.args.x (part c.args.self.now Default) c.args.draft.now)))

pub returns-in_err-complete_mask : goal.returns-in_err-complete_mask
returns-in_err-complete_mask c =
    none_left _ c.from_residual-in_err-complete_mask.result _ _ c.from_residual-in_err-complete_mask.ensures.1 (λ short.
    let named : names (part c.args.self.now Default) ≡ true = sym c.names.ensures ∙ c.if-names.true in
    let filled : size c.if-puts.draft ≤ size c.work.new.draft + 3 =
    elim c.if-puts.branch [
      | then-puts+in_ok-fill_from w ↦ omega (arith, ap size w.draft-is, ap size w.in_ok-fill_from.ensures, size-fill_from c.args.acl.now c.work.new.draft)
      | else-puts w ↦ omega (arith, ap size w.draft-is)
    ] in
    c.in_err-complete_mask.ensures (omega (arith, short named, filled, ap size c.in_ok-lost.ensures.list, size-worked c.args.x (part c.args.self.now Default) c.args.draft.now)))
