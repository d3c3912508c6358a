use Rattle.std.proofs.Common.{◌≡◌, suc, ◌+◌, cond, ◌∷◌, length, drop, filter, sym, ap, ◌∙◌, add-one, arith}
use Rattle.std.specs.FinMap as maps
use Rattle.std.proofs.Math.Seq.{drop-cons}
use Rattle.acl_edit.specs.Parts.{is_for}
use Rattle.acl_edit.specs.Rooms.{size}
use Rattle.acl_edit.specs.Steps.{modify}
use Rattle.acl_edit.proofs.Sizes.{size-insert}
use Rattle.acl_edit.proofs.steps.modify.Goals as goal
use Rattle.acl_edit.proofs.steps.modify.Goals.{then-takes+in_ok-insert, else-takes}

pub loop-spec-preserved : goal.loop-spec-preserved
loop-spec-preserved c =
    let es = c.args.specs.now in
    let i = c.loop-spec.spec-index in
    let s = c.spec-item.result in
    let p = is_for c.args.scope.as_default c.args.scope.which in
    let rest = filter p (drop (i + 1) es) in
    let left : drop i es ≡ s ∷ drop (i + 1) es =
    drop-cons es i s c.loop-spec-test.true ∙ ap (λ x. x ∷ drop (suc i) es) (sym c.spec-item.is) ∙ ap (λ n. s ∷ drop n es) (sym (add-one i)) in
    let kept : filter p (drop i es) ≡ cond c.takes.result (s ∷ rest) rest =
    ap (filter p) left ∙ ap (λ b. cond b (s ∷ rest) rest) (sym c.takes.ensures) in
    let inv = c.loop-spec.invariant in
    elim c.if-takes.branch [
      | then-takes+in_ok-insert w ↦
          let taken = kept ∙ ap (λ b. cond b (s ∷ rest) rest) w.if-takes.true in
          let put = w.draft-is ∙ w.in_ok-insert.ensures.ok in
          record {
            put = ap (modify c.args.x rest) (put ∙ ap (maps.insert c.loop-spec.draft s.key) w.perms_of.ensures) ∙ sym (ap (λ l. modify c.args.x l c.loop-spec.draft) taken) ∙ inv.put;
            room = omega (arith, ap length taken, inv.room, ap size put, size-insert c.loop-spec.draft s.key w.perms_of.result);
          }
      | else-takes w ↦
          let skipped = kept ∙ ap (λ b. cond b (s ∷ rest) rest) w.if-takes.false in
          record {
            put = ap (modify c.args.x rest) w.draft-is ∙ sym (ap (λ l. modify c.args.x l c.loop-spec.draft) skipped) ∙ inv.put;
            room = omega (arith, ap length skipped, inv.room, ap size w.draft-is);
          }
    ]
