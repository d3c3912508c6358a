use Rattle.std.proofs.Common.{◌≡◌, take, length}
use Rattle.facl_counts.specs.SumLists.{waits_of}
use Rattle.facl_counts.proofs.sums.look_again.Given as goal

abbrev pub invariant-loop-at : goal.invariant-loop-at
invariant-loop-at l = record {
  long : length l.waits ≡ length l.firsts;
  done : take l.at l.waits ≡ waits_of (take l.at l.firsts);
}
