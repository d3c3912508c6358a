use Rattle.acl_entry.specs.Check.{rights}
use Rattle.acl_rights.specs.Tables.{IsWhole}
use Rattle.acl_rights_tests.proofs.world.first_wrong.Given as goal

abbrev pub invariant-loop-at : goal.invariant-loop-at
invariant-loop-at l = IsWhole rights l.world.state l.world.index
