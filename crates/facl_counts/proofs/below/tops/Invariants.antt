use Rattle.std.proofs.Common.{◌≡◌, map, take}
use Rattle.path_map.specs.Entries.{seen}
use Rattle.facl_counts.proofs.OperandTops.{path_alone}
use Rattle.facl_counts.proofs.below.tops.Given as goal

abbrev pub invariant-loop-file : goal.invariant-loop-file
invariant-loop-file l = map seen l.paths.items ≡ map path_alone (take l.file-index l.files)
