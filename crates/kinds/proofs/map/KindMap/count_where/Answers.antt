use Rattle.std.proofs.Common.{◌≡◌, ◌≤◌, ℕ, cond, length, ap, ◌∙◌, arith}
use Rattle.kinds.specs.Kinds.{KindsOf, node_at}
use Rattle.kinds.specs.Numbered.{Numbers, paths_with}
use Rattle.kinds.specs.Passing.{passed, count_passed}
use Rattle.kinds.proofs.Numbers.{node_within}
use Rattle.kinds.proofs.PassedCounts.{none_before, one_more, all_before}
use Rattle.kinds.proofs.map.KindMap.count_where.Goals as goal

pub loop-number-init : goal.loop-number-init
loop-number-init g c = none_before (g.T.KindTest.passes c.args.test.now) c.args.self.now.0 c.args.self.now.1

pub loop-number-preserved : goal.loop-number-preserved
loop-number-preserved g c =
    let test = g.T.KindTest.passes c.args.test.now in
    let k : KindsOf g.row.N.Denot = c.args.self.now.0 in
    let ns : Numbers = c.args.self.now.1 in
    let n : ℕ = c.loop-number.number in
    let here : c.count_passing.result ≡ cond (passed test (node_at k n)) (paths_with n ns) 0 =
    c.count_passing.ensures ∙ ap (λ (l : KindsOf g.row.N.Denot). count_passed test l n) c.kinds-kinds.ensures.all
    ∙ ap (λ m. cond (passed test (node_at k n)) m 0) (c.kinds-kinds.ensures.sound.counted n) in
    let more = one_more test k n ns in
    omega (arith, more, here, c.loop-number.invariant, c.in-Some.ensures)

pub returns : goal.returns
returns g c =
    let test = g.T.KindTest.passes c.args.test.now in
    let k : KindsOf g.row.N.Denot = c.args.self.now.0 in
    let long : c.len-number-end.result ≡ length k.0 = c.len-number-end.ensures.nodes ∙ ap (λ (l : KindsOf g.row.N.Denot). length l.0) c.kinds-kinds.ensures.all in
    let end : length k.0 ≤ c.loop-number.number = omega (arith, long, c.loop-number-test.false) in
    c.loop-number.invariant
    ∙ all_before test k c.loop-number.number (λ n x is. let lt = node_within k.0 n x is in omega (arith, lt, end)) c.args.self.now.1 c.kinds-kinds.ensures.sound.used
