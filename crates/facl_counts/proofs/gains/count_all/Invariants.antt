use Rattle.std.proofs.Common.{take}
use Rattle.path_classes.specs.ClassesWithin.{inside}
use Rattle.facl_answers.specs.BothStates.{rows_in_both}
use Rattle.facl_counts.specs.InnerGains.{HaveChanges}
use Rattle.facl_counts.proofs.gains.count_all.Given as goal

abbrev pub invariant-loop-top : goal.invariant-loop-top
invariant-loop-top g l =
    HaveChanges (inside (take l.top-index l.tops) (rows_in_both g.J.Judge.verdict_of l.verdicts.along l.loaded l.verdicts.state.now)) l.initial.users l.users
