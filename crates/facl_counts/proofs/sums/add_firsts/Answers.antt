use Rattle.std.proofs.Common.{arith}
use Rattle.facl_counts.specs.SumLists.{firsts_after}
use Rattle.facl_counts.proofs.SumsApart.{firsts_end}
use Rattle.facl_counts.proofs.sums.add_firsts.Goals as goal

pub returns : goal.returns
returns g c =
    firsts_end c.args.request c.args.first c.loop-at.at c.args.row.now c.loop-at.firsts c.args.firsts.now (firsts_after c.args.request c.args.first c.args.row.now c.args.firsts.now)
    (λ a b. omega (arith, a, b, c.min-users.ensures, c.loop-at-test.false)) c.loop-at.invariant.rest c.loop-at.invariant.done
