use Rattle.std.proofs.Common.{◌≡◌, ◌++◌, length}
use Rattle.acl_text.specs.Rows.{names_of}
use Rattle.acl_text.proofs.group.names_of.Given as goal

abbrev pub invariant-loop-rest : goal.invariant-loop-rest
invariant-loop-rest l = l.names.items ++ names_of l.rest ≡ names_of l.field

abbrev pub decreases-loop-rest : goal.decreases-loop-rest
decreases-loop-rest l = length l.rest
