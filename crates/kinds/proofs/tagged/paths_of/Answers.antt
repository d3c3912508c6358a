use Rattle.std.proofs.Common.{ℕ, List, take, get_or, ap, ◌∙◌, arith}
use Rattle.std.specs.List.{sum_by}
use Rattle.std.proofs.lemmas.List.{take_more}
use Rattle.std.proofs.lemmas.List.Sums.{sum_by_push}
use Rattle.kinds.specs.Kinds.{count_at}
use Rattle.kinds.proofs.Tags.{take_end}
use Rattle.kinds.proofs.tagged.paths_of.Goals as goal

pub loop-number-preserved : goal.loop-number-preserved
loop-number-preserved g c =
    let ns : List ℕ = c.args.numbers.now in
    let i : ℕ = c.loop-number.number-index in
    let more = ap (sum_by (count_at c.args.kinds.now)) (take_more ns i 0 c.loop-number-test.true) ∙ sum_by_push (count_at c.args.kinds.now) (take i ns) (get_or ns i 0) in
    let before = c.loop-number.invariant in
    let added = c.in-Some.ensures in
    let one = c.count.ensures in
    omega (arith, more, before, added, one)

pub returns : goal.returns
returns g c = c.loop-number.invariant ∙ ap (sum_by (count_at c.args.kinds.now)) (take_end c.args.numbers.now c.loop-number.number-index (omega (arith, c.loop-number-test.false)))
