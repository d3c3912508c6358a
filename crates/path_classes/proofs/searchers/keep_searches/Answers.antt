use Rattle.std.proofs.Common.{arith}
use Rattle.path_classes.proofs.Searches.{kept_end}
use Rattle.path_classes.proofs.searchers.keep_searches.Goals as goal

pub returns : goal.returns
returns c =
    kept_end c.loop-at.at c.args.cells.now c.loop-at.users c.args.users.now (λ a b. omega (arith, a, b, c.min-count.ensures, c.loop-at-test.false)) c.loop-at.invariant.rest
    c.loop-at.invariant.done
