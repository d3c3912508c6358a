use Rattle.std.proofs.Common.{◌+◌, length}
use Rattle.facl_answers.specs.BothStates.{both_of}
use Rattle.facl_counts.proofs.BothCounts.{IsCounting}
use Rattle.facl_counts.proofs.both_counts.count_within.Given as goal

abbrev pub invariant-loop-hints : goal.invariant-loop-hints
invariant-loop-hints l = IsCounting l.top (both_of l.initial.both) (both_of l.both) l.tallies

abbrev pub decreases-loop-hints : goal.decreases-loop-hints
decreases-loop-hints l = length l.both.before.1 + length l.both.after.1
