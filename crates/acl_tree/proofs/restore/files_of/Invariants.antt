use Rattle.std.proofs.Common.{◌≡◌, ◌++◌, map, length}
use Rattle.std.specs.List.{All}
use Rattle.acl_tree.specs.Operands.{first_missing}
use Rattle.acl_tree.specs.Restoring.{paths_of}
use Rattle.acl_tree.specs.Inner.{IsFileOf}
use Rattle.acl_tree.proofs.restore.files_of.Given as goal

abbrev pub invariant-loop-rest : goal.invariant-loop-rest
invariant-loop-rest l = record {
  records : map (λ x. x.1) l.found.items ++ l.rest ≡ l.records;
  files : All (IsFileOf l.tree.files) l.found.items;
  finder : l.finder ≡ l.tree.files;
  there : first_missing (paths_of l.rest) l.tree.files ≡ first_missing (paths_of l.records) l.tree.files;
}

abbrev pub decreases-loop-rest : goal.decreases-loop-rest
decreases-loop-rest l = length l.rest
