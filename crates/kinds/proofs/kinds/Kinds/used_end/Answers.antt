use Rattle.std.proofs.Common.{◌≡◌, ◌-◌, arith}
use Rattle.std.proofs.lemmas.List.{get_or_past}
use Rattle.kinds.specs.Kinds.{KindsOf, count_at}
use Rattle.kinds.proofs.Renewals.{past_before}
use Rattle.kinds.proofs.kinds.Kinds.used_end.Goals as goal

pub loop-end-init : goal.loop-end-init
loop-end-init g c =
    let k : KindsOf g.row.N.Denot = c.args.self.now in
    record {
      within = omega (arith, c.len-end.ensures.nodes);
      past = λ n le. get_or_past k.1 n 0 (omega (arith, le, c.len-end.ensures.counts));
    }

pub loop-end-preserved : goal.loop-end-preserved
loop-end-preserved g c =
    let k : KindsOf g.row.N.Denot = c.args.self.now in
    let end = c.loop-end.end in
    let none : count_at k (end - 1) ≡ 0 = omega (arith, c.count-paths.ensures, c.if-paths-gt0.false) in
    record {
      within = omega (arith, c.loop-end.invariant.within);
      past = past_before k end (omega (arith, c.loop-end-test.true)) none c.loop-end.invariant.past;
    }
