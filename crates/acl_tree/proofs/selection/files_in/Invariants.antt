use Rattle.std.proofs.Common.{◌≡◌, ◌++◌, length}
use Rattle.path_map.specs.Inner.{IsEndOf}
use Rattle.kinds.specs.Numbered.{entries_by, AreUsed}
use Rattle.acl_tree.specs.Found.{files_found, found_in}
use Rattle.acl_tree.proofs.selection.files_in.Given as goal

abbrev pub invariant-loop-entry : goal.invariant-loop-entry
invariant-loop-entry l = record {
  end : IsEndOf l.walk.1 l.files.1;
  used : AreUsed l.files.0 l.walk.0;
  all : l.found.items ++ found_in l.tree.files (entries_by l.files.0 l.walk.0) ≡ files_found l.region.0 l.region.1 l.tree.files;
}

abbrev pub decreases-loop-entry : goal.decreases-loop-entry
decreases-loop-entry l = length l.walk.0
