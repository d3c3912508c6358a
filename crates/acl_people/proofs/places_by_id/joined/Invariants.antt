use Rattle.std.proofs.Common.{◌≡◌, ◌++◌, map, take}
use Rattle.acl_people.proofs.places_by_id.joined.Given as goal

abbrev pub invariant-loop-note : goal.invariant-loop-note
invariant-loop-note l = l.all.items ≡ l.places ++ map (λ n. n.place) (take l.note-index l.notes)
