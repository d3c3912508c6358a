use Rattle.std.proofs.Common.{◌≡◌, ◌++◌, take}
use Rattle.std.specs.List.{flat_map}
use Rattle.facl_counts.specs.BelowText.{folder_lines}
use Rattle.facl_counts.proofs.folders.push_folders.Given as goal

abbrev pub invariant-loop-folder : goal.invariant-loop-folder
invariant-loop-folder g l =
    l.text.items ≡ l.initial.text.items ++ flat_map
    (folder_lines g.J.Judge.verdict_of l.verdicts.along l.verdicts.state.now l.which.asked.request l.which.asked.kind l.which.user) (take l.folder-index l.folders)
