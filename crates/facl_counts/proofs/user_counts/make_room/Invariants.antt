use Rattle.std.proofs.Common.{◌≡◌, ◌++◌, take, drop, length, replicate}
use Rattle.facl_counts.specs.SumLists.{totals}
use Rattle.facl_counts.proofs.user_counts.make_room.Given as goal

abbrev pub invariant-loop-at : goal.invariant-loop-at
invariant-loop-at l = record {
  long : length l.wide ≡ length l.initial.wide;
  rest : drop l.at l.wide ≡ drop l.at l.initial.wide;
  done : take l.at l.wide ++ totals (drop l.at l.initial.wide) (drop l.at l.initial.narrow) ≡ totals l.initial.wide l.initial.narrow;
}

abbrev pub invariant-loop-place : goal.invariant-loop-place
invariant-loop-place l = record {
  long : length l.narrow ≡ length l.initial.narrow;
  done : take l.place l.narrow ≡ replicate l.place 0;
}
