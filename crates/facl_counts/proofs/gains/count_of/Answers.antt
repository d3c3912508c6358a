use Rattle.std.proofs.Common.{◌≡◌, ◌+◌, cond, sym, ap, ◌∙◌, arith}
use Rattle.facl_counts.specs.GainsText.{is_same}
use Rattle.facl_counts.proofs.GainLines.{sum_more}
use Rattle.facl_counts.proofs.gains.count_of.Goals as goal

pub loop-tally-preserved-then-not-is_same : goal.loop-tally-preserved-then-not-is_same
loop-tally-preserved-then-not-is_same c =
    let none : c.loop-tally.sum ≡ c.loop-tally.sum + 0 = omega arith in
    none
    ∙ ap (λ b. c.loop-tally.sum + cond b c.tally-item.result.count 0) (sym c.if-not-is_same.true ∙ c.is_same.ensures)
    ∙ sym (sum_more (is_same c.args.granted) c.args.tallies.now c.loop-tally.tally-index c.tally-item.result c.tally-item.result c.loop-tally.sum
    c.loop-tally-test.true c.tally-item.is c.loop-tally.invariant)

pub loop-tally-preserved : goal.loop-tally-preserved
loop-tally-preserved c =
    c.in_ok-sum.ensures
    ∙ ap (λ b. c.loop-tally.sum + cond b c.tally-item.result.count 0) (sym c.if-not-is_same.false ∙ c.is_same.ensures)
    ∙ sym (sum_more (is_same c.args.granted) c.args.tallies.now c.loop-tally.tally-index c.tally-item.result c.tally-item.result c.loop-tally.sum
    c.loop-tally-test.true c.tally-item.is c.loop-tally.invariant)
