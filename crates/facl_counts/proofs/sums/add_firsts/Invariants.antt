use Rattle.std.proofs.Common.{◌≡◌, ◌++◌, take, drop, length}
use Rattle.facl_counts.specs.SumLists.{firsts_after}
use Rattle.facl_counts.proofs.sums.add_firsts.Given as goal

abbrev pub invariant-loop-at : goal.invariant-loop-at
invariant-loop-at g l = record {
  long : length l.firsts ≡ length l.initial.firsts;
  rest : drop l.at l.firsts ≡ drop l.at l.initial.firsts;
  done : take l.at l.firsts ++ firsts_after l.request l.first (drop l.at l.row) (drop l.at l.initial.firsts) ≡ firsts_after l.request l.first l.row l.initial.firsts;
}
