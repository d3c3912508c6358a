use Rattle.std.proofs.Common.{take}
use Rattle.acl_people.specs.KnownPeople.{naming_of}
use Rattle.acl_text.specs.Writing.{AreNamed}
use Rattle.facl_output.proofs.round_trips.list_is_read_again.Given as goal

abbrev pub invariant-loop-entry : goal.invariant-loop-entry
invariant-loop-entry l = AreNamed (naming_of l.people) (take l.entry-index l.entry-items)
