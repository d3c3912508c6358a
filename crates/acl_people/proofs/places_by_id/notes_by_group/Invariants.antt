use Rattle.std.proofs.Common.{◌≡◌, ℕ, map, take}
use Rattle.acl_people.specs.Places.{is_noted, is_in, passes_at}
use Rattle.acl_people.proofs.places_by_id.notes_by_group.Given as goal

abbrev pub invariant-loop-place : goal.invariant-loop-place
invariant-loop-place l = (id at : ℕ) → is_noted id at l.notes.items ≡ passes_at (is_in id) (take l.place (map (λ s. s.value) l.users)) at
