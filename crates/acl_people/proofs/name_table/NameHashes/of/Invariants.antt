use Rattle.std.proofs.Common.{map, take}
use Rattle.sha2.specs.Hashers.{Holds256}
use Rattle.acl_people.specs.Hashes.{all_names}
use Rattle.acl_people.proofs.name_table.NameHashes.of.Given as goal

abbrev pub invariant-loop-row : goal.invariant-loop-row
invariant-loop-row g l = Holds256 l.digest (all_names (map g.R.NamedRow.named (take l.row-index l.rows)))
