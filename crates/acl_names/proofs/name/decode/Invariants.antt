use Rattle.std.proofs.Common.{◌≡◌, ◌++◌, length}
use Rattle.acl_names.specs.Names.{decoded}
use Rattle.acl_names.proofs.name.decode.Given as goal

abbrev pub invariant-loop-rest : goal.invariant-loop-rest
invariant-loop-rest l = l.bytes.items ++ decoded l.rest ≡ decoded l.text

abbrev pub decreases-loop-rest : goal.decreases-loop-rest
decreases-loop-rest l = length l.rest
