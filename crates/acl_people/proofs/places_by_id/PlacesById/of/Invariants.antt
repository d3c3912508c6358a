use Rattle.std.proofs.Common.{◌≡◌, ◌||◌, ℕ, length}
use Rattle.acl_entry.specs.Mentions.{is_one_of}
use Rattle.acl_people.specs.Places.{noted_for, is_noted}
use Rattle.acl_people.proofs.places_by_id.PlacesById.of.Given as goal

abbrev pub invariant-loop-first : goal.invariant-loop-first
invariant-loop-first l = (id at : ℕ) → (is_one_of at (noted_for l.noted id) || is_noted id at l.rest) ≡ is_noted id at l.fn.notes.items

abbrev pub decreases-loop-first : goal.decreases-loop-first
decreases-loop-first l = length l.rest
