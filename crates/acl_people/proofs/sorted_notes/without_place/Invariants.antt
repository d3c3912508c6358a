use Rattle.std.proofs.Common.{◌≡◌, take}
use Rattle.acl_people.specs.Kept.{without_place}
use Rattle.acl_people.proofs.sorted_notes.without_place.Given as goal

abbrev pub invariant-loop-note : goal.invariant-loop-note
invariant-loop-note l = l.others.items ≡ without_place l.gone (take l.note-index l.notes)
