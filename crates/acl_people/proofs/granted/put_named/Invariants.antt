use Rattle.std.proofs.Common.{◌≡◌, ℕ, drop, map}
use Rattle.acl_entry.specs.Person.{Person}
use Rattle.acl_people.proofs.ByEntries.{named}
use Rattle.acl_people.proofs.granted.put_named.Given as goal

-- the entries from place i on are done
abbrev pub invariant-loop-i : goal.invariant-loop-i
invariant-loop-i l = (f : Person → ℕ) → l.fn.row ≡ map f l.users → l.row ≡ map (named l.mask f (drop l.i l.entries)) l.users
