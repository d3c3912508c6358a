use Rattle.std.proofs.Common.{◌≡◌, ◌<◌, ℕ, List, length, take, get_or, sym, subst, ◌∙◌, arith}
use Rattle.std.proofs.lemmas.List.{take_more, length-take-le}
use Rattle.kinds.specs.Kinds.{Grants}
use Rattle.kinds.specs.Counted.{GrantsEach}
use Rattle.kinds.proofs.ByNumber.{grants_each_more}
use Rattle.kinds.proofs.numbering.grant_each.Goals as goal

pub grant_if-requires : goal.grant_if-requires
grant_if-requires g c = λ some.
    let is = c.requires c.loop-number.number some in
    (is.0, c.loop-number.invariant.nodes c.loop-number.number ∙ is.1)

pub loop-number-preserved : goal.loop-number-preserved
loop-number-preserved g c =
    let i = c.loop-number.number in
    let counts = c.args.counts.now in
    let lt : i < length counts = omega (arith, c.loop-number-test.true) in
    let long : length (take i counts) ≡ i = length-take-le i counts (omega (arith, lt)) in
    subst (λ (l : List ℕ). GrantsEach c.args.kinds l c.in_ok-kinds.kinds) (sym (take_more counts i 0 lt))
    (grants_each_more c.args.kinds c.loop-number.kinds c.in_ok-kinds.kinds (take i counts) (get_or counts i 0) c.loop-number.invariant
    (subst (λ at. Grants c.loop-number.kinds at (get_or counts i 0) c.in_ok-kinds.kinds) (sym long) c.in_ok-kinds.ensures))
