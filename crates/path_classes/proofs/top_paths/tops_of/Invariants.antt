use Rattle.std.proofs.Common.{◌+◌, length, map, drop}
use Rattle.path_map.specs.Entries.{seen}
use Rattle.path_classes.specs.ClassesWithin.{paths_seen}
use Rattle.path_classes.specs.Tops.{AreTaken}
use Rattle.path_classes.proofs.top_paths.tops_of.Given as goal

abbrev pub invariant-loop-path : goal.invariant-loop-path
invariant-loop-path g l = AreTaken (map seen l.changed) (map seen l.gone) (map seen (drop l.change l.changed)) (map seen (drop l.other l.gone)) (paths_seen l.tops.items)

abbrev pub decreases-loop-path : goal.decreases-loop-path
decreases-loop-path g l = length (drop l.change l.changed) + length (drop l.other l.gone)
