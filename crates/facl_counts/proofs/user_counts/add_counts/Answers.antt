use Rattle.std.proofs.Common.{arith}
use Rattle.facl_counts.specs.SumLists.{counts_after}
use Rattle.facl_counts.proofs.SumsApart.{counts_end}
use Rattle.facl_counts.proofs.user_counts.add_counts.Goals as goal

pub returns : goal.returns
returns c =
    counts_end c.args.request c.args.more c.loop-at.at c.args.row.now c.loop-at.counts c.args.counts.now (counts_after c.args.request c.args.more c.args.row.now c.args.counts.now)
    (λ a b. omega (arith, a, b, c.min-users.ensures, c.loop-at-test.false)) c.loop-at.invariant.rest c.loop-at.invariant.done
