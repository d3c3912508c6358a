use Rattle.std.proofs.Common.{◌≡◌, ◌++◌, map, length}
use Rattle.path_map.specs.Entries.{seen}
use Rattle.path_classes.proofs.classes_within.push_all.Given as goal

abbrev pub invariant-loop-entry : goal.invariant-loop-entry
invariant-loop-entry l = map seen l.all.items ++ l.rest ≡ map seen l.fn.all.items ++ l.fn.files

abbrev pub decreases-loop-entry : goal.decreases-loop-entry
decreases-loop-entry l = length l.rest
