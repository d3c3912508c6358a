use Rattle.std.proofs.Common.{◌≡◌, map, take}
use Rattle.path_map.specs.Entries.{seen}
use Rattle.path_classes.specs.ClassesWithin.{paths_seen, inside}
use Rattle.path_classes.proofs.classes_within.files_within.Given as goal

abbrev pub invariant-loop-top : goal.invariant-loop-top
invariant-loop-top l = map seen l.all.items ≡ inside (paths_seen (take l.top-index l.tops)) l.files
