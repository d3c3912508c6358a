use Rattle.std.proofs.Common.{length}
use Rattle.std.specs.Prelude.{option_map}
use Rattle.kinds.specs.Numbered.{entries_in}
use Rattle.kinds.specs.Puts.{borrowed}
use Rattle.acl_tree.proofs.Ancestors.{IsClimbed, to_come}
use Rattle.acl_tree.proofs.files.Files.ancestors.Given as goal

abbrev pub invariant-loop-above : goal.invariant-loop-above
invariant-loop-above l = IsClimbed l.path (entries_in l.files) (option_map borrowed l.above) l.paths.items

abbrev pub decreases-loop-above : goal.decreases-loop-above
decreases-loop-above l = length (to_come (option_map borrowed l.above) (entries_in l.files))
