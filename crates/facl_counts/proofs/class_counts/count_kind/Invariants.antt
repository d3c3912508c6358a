use Rattle.std.proofs.Common.{length}
use Rattle.facl_answers.specs.BothStates.{front}
use Rattle.facl_counts.specs.Sums.{rows_with, IsCounting}
use Rattle.facl_counts.proofs.class_counts.count_kind.Given as goal

abbrev pub invariant-loop-tallies : goal.invariant-loop-tallies
invariant-loop-tallies l =
    IsCounting (rows_with l.kind l.initial.files (front l.top l.initial.classes.1)) (rows_with l.kind l.files (front l.top l.classes.1)) l.classes.0 l.tallies

abbrev pub decreases-loop-tallies : goal.decreases-loop-tallies
decreases-loop-tallies l = length l.classes.1
