use Rattle.std.proofs.Common.{◌≡◌, map, take}
use Rattle.acl_people.specs.Kept.{notes_of}
use Rattle.acl_people.proofs.name_table.notes_of.Given as goal

abbrev pub invariant-loop-place : goal.invariant-loop-place
invariant-loop-place g l = l.notes.items ≡ notes_of l.digits (map g.R.NamedRow.named (take l.place l.rows))
