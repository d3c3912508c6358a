use Rattle.std.proofs.Common.{◌≡◌, ◌∷◌, map, filter, take}
use Rattle.acl_people.specs.KnownPeople.{names_user}
use Rattle.acl_people.proofs.persons.person_of.Given as goal

abbrev pub invariant-loop-group : goal.invariant-loop-group
invariant-loop-group l = l.gids.items ≡ l.user.gid ∷ map (λ row. row.gid) (filter (names_user l.user.name) (take l.group-index (map (λ r. r.value) l.groups)))
