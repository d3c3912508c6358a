use Rattle.std.proofs.Common.{◌+◌, length}
use Rattle.facl_answers.specs.BothStates.{both_of}
use Rattle.facl_answers.specs.PathTexts.{text_in}
use Rattle.facl_answers.proofs.BothLines.{IsPushing}
use Rattle.facl_answers.proofs.changes.push_both.Given as goal

abbrev pub invariant-loop-file : goal.invariant-loop-file
invariant-loop-file l =
    IsPushing l.users.list.now (text_in l.trees.0.now l.trees.1.now) l.top (both_of l.initial.both) l.initial.text.items (both_of l.both) l.text.items

abbrev pub decreases-loop-file : goal.decreases-loop-file
decreases-loop-file l = length l.both.before.1 + length l.both.after.1
