use Rattle.std.proofs.Common.{◌≡◌, ◌++◌, take}
use Rattle.std.specs.List.{flat_map}
use Rattle.facl_answers.specs.Answers.{file_line}
use Rattle.facl_counts.proofs.below.push_found.Given as goal

abbrev pub invariant-loop-file : goal.invariant-loop-file
invariant-loop-file l = l.text.items ≡ l.initial.text.items ++ flat_map file_line (take l.file-index l.files)
