use Rattle.std.proofs.Common.{◌≡◌, drop}
use Rattle.acl_tree.specs.Operands.{first_missing}
use Rattle.acl_tree.proofs.selection.look_up.Given as goal

abbrev pub invariant-loop-path : goal.invariant-loop-path
invariant-loop-path l = first_missing (drop l.path-index l.operands) l.tree.files ≡ first_missing l.operands l.tree.files
