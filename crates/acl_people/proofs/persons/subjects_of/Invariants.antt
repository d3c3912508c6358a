use Rattle.std.proofs.Common.{◌≡◌, map, take}
use Rattle.acl_people.specs.KnownPeople.{person}
use Rattle.acl_people.proofs.persons.subjects_of.Given as goal

abbrev pub invariant-loop-row : goal.invariant-loop-row
invariant-loop-row l = map (λ s. s.value) l.subjects.items ≡ map (person (map (λ r. r.value) l.groups)) (take l.row-index (map (λ r. r.value) l.users))
