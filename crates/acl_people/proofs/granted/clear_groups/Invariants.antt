use Rattle.std.proofs.Common.{◌≡◌, ℕ, take, map}
use Rattle.acl_entry.specs.Person.{Person}
use Rattle.acl_people.proofs.ByEntries.{cleared}
use Rattle.acl_people.proofs.granted.clear_groups.Given as goal

abbrev pub invariant-loop-entry : goal.invariant-loop-entry
invariant-loop-entry l = (f : Person → ℕ) → l.fn.row ≡ map f l.users → l.row ≡ map (cleared l.label.group f (take l.entry-index l.entry-items)) l.users
