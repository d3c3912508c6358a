use Rattle.std.proofs.Common.{◌≡◌, ◌==◌, ◌&&◌, ◌||◌, ℕ, take}
use Rattle.acl_entry.specs.Mentions.{is_one_of}
use Rattle.acl_people.specs.Places.{is_noted}
use Rattle.acl_people.proofs.places_by_id.note_groups.Given as goal

abbrev pub invariant-loop-group : goal.invariant-loop-group
invariant-loop-group l = (q at : ℕ) → is_noted q at l.notes.items ≡ (is_noted q at l.fn.notes.items || (is_one_of q (take l.group-index l.groups) && (l.place == at)))
