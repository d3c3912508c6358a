use Rattle.std.proofs.Common.{◌≡◌, ◌||◌, drop}
use Rattle.facl_counts.specs.SumLists.{grants_one}
use Rattle.facl_counts.proofs.sums.grants_one.Given as goal

abbrev pub invariant-loop-at : goal.invariant-loop-at
invariant-loop-at l = (l.found || grants_one l.request (drop l.at l.row) (drop l.at l.waits)) ≡ grants_one l.request l.row l.waits
