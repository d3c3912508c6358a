use Rattle.std.proofs.Common.{◌≡◌, ◌++◌, map, take, drop}
use Rattle.acl_names.specs.Packed.{with_slash}
use Rattle.acl_names.proofs.packed_text.put_slashes.Given as goal

abbrev pub invariant-loop-b : goal.invariant-loop-b
invariant-loop-b l = l.bytes ≡ map with_slash (take l.b-index l.initial.bytes) ++ drop l.b-index l.initial.bytes
