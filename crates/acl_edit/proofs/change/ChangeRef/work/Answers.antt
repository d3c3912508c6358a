use Rattle.std.proofs.Common.{◌≡◌, length, filter, ap, ◌∙◌, arith}
use Rattle.acl_edit.specs.Changes.{Change}
use Rattle.acl_edit.specs.Parts.{part, is_for}
use Rattle.acl_edit.specs.Rooms.{size}
use Rattle.acl_edit.proofs.Sizes.{none_left, size-replace, size-remove}
use Rattle.acl_edit.proofs.change.ChangeRef.work.Goals as goal

pub returns-in_err-replace-clause-list : goal.returns-in_err-replace-clause-list
returns-in_err-replace-clause-list c =
    none_left _ c.from_residual.result _ _ c.from_residual.ensures.1 (λ short.
    let scope = c.scope-scope.ensures in
    let set : filter (is_for c.scope-scope.result.as_default c.scope-scope.result.which) c.as_slice.result.now ≡ (part c.args.self.now c.args.which).set =
    (λ i. filter (is_for (scope i).as_default (scope i).which) (c.as_slice.ensures i)) ∙ ap (λ (l : Change). filter (is_for c.args.self.now.as_default c.args.which) l.set) c.self.view_is in
    c.in_err-replace.ensures (omega (arith, ap length set)))

pub returns-in_err-modify-clause-list : goal.returns-in_err-modify-clause-list
returns-in_err-modify-clause-list c =
    none_left _ c.from_residual-in_err-modify.result _ _ c.from_residual-in_err-modify.ensures.1 (λ short.
    let scope = c.scope-scope.ensures in
    let taken = is_for c.scope-scope.result.as_default c.scope-scope.result.which in
    let set : filter taken c.as_slice.result.now ≡ (part c.args.self.now c.args.which).set =
    (λ i. filter (is_for (scope i).as_default (scope i).which) (c.as_slice.ensures i)) ∙ ap (λ (l : Change). filter (is_for c.args.self.now.as_default c.args.which) l.set) c.self.view_is in
    let modify : filter taken c.as_slice-3.result.now ≡ (part c.args.self.now c.args.which).modify =
    (λ i. filter (is_for (scope i).as_default (scope i).which) (c.as_slice-3.ensures i)) ∙ ap (λ (l : Change). filter (is_for c.args.self.now.as_default c.args.which) l.modify) c.self.view_is in
    let replaced = ap size c.in_ok-replace.ensures in
    let removed = ap size c.remove.ensures in
    c.in_err-modify.ensures (omega (
      arith,
      ap length set,
      ap length modify,
      replaced,
      size-replace c.args.x (filter taken c.as_slice.result.now) c.args.draft.now,
      removed,
      size-remove (filter taken c.as_slice-2.result.now) c.replace.new.draft,
    )))
