use Rattle.std.proofs.Common.{◌≡◌, map, take}
use Rattle.acl_people.specs.Changes.{name_removed}
use Rattle.acl_people.proofs.groups.rows_without.Given as goal

abbrev pub invariant-loop-row : goal.invariant-loop-row
invariant-loop-row l = map (λ r. r.value) l.groups.items ≡ map (name_removed l.name) (take l.row-index (map (λ r. r.value) l.rows))
