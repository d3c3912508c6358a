use Rattle.std.proofs.Common.{take}
use Rattle.path_classes.specs.ClassesWithin.{paths_seen, inside}
use Rattle.facl_counts.specs.Sums.{rows_of_kind, AreSums}
use Rattle.facl_counts.proofs.below.sums_below.Given as goal

abbrev pub invariant-loop-top : goal.invariant-loop-top
invariant-loop-top g l =
    AreSums l.asked.request (inside (paths_seen (take l.top-index l.tops)) (rows_of_kind g.J.Judge.verdict_of l.verdicts.along l.verdicts.state.now l.asked.kind)) l.names l.sums
