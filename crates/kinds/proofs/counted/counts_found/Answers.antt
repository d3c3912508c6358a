use Rattle.std.proofs.Common.{ℕ, List, Option, None, take, get_or, sym, subst}
use Rattle.std.proofs.lemmas.List.{take_more}
use Rattle.kinds.specs.Counted.{CountsFound}
use Rattle.kinds.proofs.ByNumber.{found_one_more}
use Rattle.kinds.proofs.counted.counts_found.Goals as goal

pub loop-one-preserved : goal.loop-one-preserved
loop-one-preserved c =
    let i = c.loop-one.one-index in
    let found = c.args.found.now in
    subst (λ (os : List (Option ℕ)). CountsFound c.args.numbers os c.count_one.new.counts.items) (sym (take_more found i None c.loop-one-test.true))
    (found_one_more c.args.numbers (take i found) (get_or found i None) c.loop-one.counts.items c.count_one.new.counts.items c.loop-one.invariant c.in_ok-count_one.ensures)
