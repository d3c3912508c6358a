use Rattle.std.proofs.Common.{◌≡◌, map, take}
use Rattle.acl_people.specs.Kept.{named_in}
use Rattle.acl_people.proofs.name_table.names_of.Given as goal

abbrev pub invariant-loop-row : goal.invariant-loop-row
invariant-loop-row g l = named_in l.names.entries ≡ map g.R.NamedRow.named (take l.row-index l.rows)
