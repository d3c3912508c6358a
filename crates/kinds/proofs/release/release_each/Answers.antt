use Rattle.std.proofs.Common.{◌≡◌, ◌<◌, ℕ, List, length, take, get_or, sym, subst, arith}
use Rattle.std.proofs.lemmas.List.{take_more, length-take-le}
use Rattle.kinds.specs.Kinds.{Releases}
use Rattle.kinds.specs.Counted.{ReleasesEach}
use Rattle.kinds.proofs.ByNumber.{each_more}
use Rattle.kinds.proofs.release.release_each.Goals as goal

pub loop-number-preserved : goal.loop-number-preserved
loop-number-preserved g c =
    let i = c.loop-number.number in
    let counts = c.args.counts.now in
    let lt : i < length counts = omega (arith, c.loop-number-test.true) in
    let long : length (take i counts) ≡ i = length-take-le i counts (omega (arith, lt)) in
    subst (λ (l : List ℕ). ReleasesEach c.args.kinds l c.in_ok-kinds.kinds) (sym (take_more counts i 0 lt))
    (each_more c.args.kinds c.loop-number.kinds c.in_ok-kinds.kinds (take i counts) (get_or counts i 0) c.loop-number.invariant
    (subst (λ at. Releases c.loop-number.kinds at (get_or counts i 0) c.in_ok-kinds.kinds) (sym long) c.in_ok-kinds.ensures))
