use Rattle.std.proofs.Common.{◌≡◌, length}
use Rattle.acl_tree.specs.Rm.{first_refused}
use Rattle.acl_tree.proofs.rm.check_all.Given as goal

abbrev pub invariant-loop-rest : goal.invariant-loop-rest
invariant-loop-rest l = first_refused l.selection.recursive l.rest l.tree.files ≡ first_refused l.selection.recursive l.selection.operands.now l.tree.files

abbrev pub decreases-loop-rest : goal.decreases-loop-rest
decreases-loop-rest l = length l.rest
