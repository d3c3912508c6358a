use Rattle.std.proofs.Common.{◌≡◌, ◌++◌, map, length}
use Rattle.path_map.specs.Entries.{seen}
use Rattle.acl_tree.specs.Operands.{files_meant}
use Rattle.acl_tree.proofs.region.numbers_in.Given as goal

abbrev pub invariant-loop-entry : goal.invariant-loop-entry
invariant-loop-entry l = map seen l.entries.items ++ l.walk.0 ≡ files_meant l.region.0 l.region.1 l.numbers

abbrev pub decreases-loop-entry : goal.decreases-loop-entry
decreases-loop-entry l = length l.walk.0
