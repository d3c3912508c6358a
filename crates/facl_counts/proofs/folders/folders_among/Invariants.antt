use Rattle.std.proofs.Common.{◌≡◌, filter, take}
use Rattle.facl_counts.specs.BelowText.{is_folder}
use Rattle.facl_counts.proofs.folders.folders_among.Given as goal

abbrev pub invariant-loop-file : goal.invariant-loop-file
invariant-loop-file l = l.folders.items ≡ filter (is_folder l.depth l.path) (take l.file-index l.files)
