use Rattle.std.proofs.Common.{◌≡◌, ℕ, take, map, if◌then◌else◌}
use Rattle.acl_entry.specs.Person.{Person}
use Rattle.acl_people.specs.Cases.{is_matched}
use Rattle.acl_people.proofs.ByEntries.{added}
use Rattle.acl_people.proofs.granted.add_groups.Given as goal

abbrev pub invariant-loop-entry : goal.invariant-loop-entry
invariant-loop-entry l =
    (f : Person → ℕ) → l.fn.row ≡ map (λ u. if is_matched l.label u then 0 else f u) l.users
    → l.row ≡ map (added l.label.group l.mask (is_matched l.label) f (take l.entry-index l.entry-items)) l.users
