use Rattle.std.proofs.Common.{◌≡◌, ◌++◌, take, drop, length}
use Rattle.facl_counts.specs.SumLists.{counts_after}
use Rattle.facl_counts.proofs.user_counts.add_few.Given as goal

abbrev pub invariant-loop-at : goal.invariant-loop-at
invariant-loop-at l = record {
  long : length l.counts ≡ length l.initial.counts;
  rest : drop l.at l.counts ≡ drop l.at l.initial.counts;
  done : take l.at l.counts ++ counts_after l.request l.more (drop l.at l.row) (drop l.at l.initial.counts) ≡ counts_after l.request l.more l.row l.initial.counts;
}
