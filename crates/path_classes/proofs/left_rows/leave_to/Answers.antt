use Rattle.std.proofs.Common.{arith}
use Rattle.path_classes.proofs.LeftRows.{left_to_end}
use Rattle.path_classes.proofs.left_rows.leave_to.Goals as goal

pub returns : goal.returns
returns c =
    left_to_end c.loop-at.at c.args.through.now c.loop-at.cells c.args.cells.now
    (λ a b. omega (arith, a, b, c.min-users.ensures, c.loop-at-test.false)) c.loop-at.invariant.rest c.loop-at.invariant.done
