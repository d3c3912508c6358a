use Rattle.std.proofs.Common.{true, false, ap, sym, ◌∙◌, arith}
use Rattle.std.proofs.lemmas.Grind.{common_steps}
use Rattle.acl_entry.specs.Check.{has}
use Rattle.path_classes.specs.Rows.{who_in}
use Rattle.path_classes.proofs.Places.{places_step}
use Rattle.path_classes.proofs.answers.granted_users.Goals.{then-has+in_ok-push, else-has}
use Rattle.path_classes.proofs.answers.granted_users.Goals as goal

pub loop-at-preserved : goal.loop-at-preserved
loop-at-preserved c =
    let q = c.args.request in
    elim c.if-has.branch [
      | then-has+in_ok-push w ↦
          places_step (λ x. has x q) c.args.cells.now c.loop-at.at c.index-cells-at.result true c.loop-at.users.items c.if-has.users.items
          (who_in q c.args.cells.now) c.loop-at-test.true c.index-cells-at.is (sym w.if-has.true ∙ c.has.ensures) (ap (λ v. v.items) w.users-is ∙ w.in_ok-push.ensures.items) c.loop-at.invariant
      | else-has w ↦ places_step (λ x. has x q) c.args.cells.now c.loop-at.at c.index-cells-at.result false c.loop-at.users.items c.if-has.users.items
          (who_in q c.args.cells.now) c.loop-at-test.true c.index-cells-at.is (sym w.if-has.false ∙ c.has.ensures) (ap (λ v. v.items) w.users-is) c.loop-at.invariant
    ]

pub returns : goal.returns
returns c = grind (arith, common_steps)
