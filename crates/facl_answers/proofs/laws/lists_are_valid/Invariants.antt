use Rattle.std.proofs.Common.{length}
use Rattle.std.specs.List.{AllByRecursion}
use Rattle.facl_answers.specs.Inner.{HasValidList}
use Rattle.facl_answers.proofs.laws.lists_are_valid.Given as goal

abbrev pub invariant-loop-file : goal.invariant-loop-file
invariant-loop-file l = AllByRecursion HasValidList l.files → AllByRecursion HasValidList l.tree.files

abbrev pub decreases-loop-file : goal.decreases-loop-file
decreases-loop-file l = length l.files
