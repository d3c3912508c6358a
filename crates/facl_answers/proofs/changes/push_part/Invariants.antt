use Rattle.std.proofs.Common.{◌≡◌, ◌++◌, take}
use Rattle.path_classes.specs.ClassesWithin.{inside}
use Rattle.facl_answers.specs.BothStates.{rows_in_both}
use Rattle.facl_answers.specs.Inner.{lines_of_files}
use Rattle.facl_answers.specs.PathTexts.{text_in}
use Rattle.facl_answers.proofs.changes.push_part.Given as goal

abbrev pub invariant-loop-top : goal.invariant-loop-top
invariant-loop-top g l =
    l.text.items ≡ l.initial.text.items
    ++ lines_of_files l.users (text_in l.loaded.tree l.verdicts.state.now.tree)
    (inside (take l.top-index l.tops) (rows_in_both g.J.Judge.verdict_of l.verdicts.along l.loaded l.verdicts.state.now))
