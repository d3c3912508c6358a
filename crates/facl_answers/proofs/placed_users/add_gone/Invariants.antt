use Rattle.std.proofs.Common.{◌≡◌, ◌++◌, not, take, map, filter}
use Rattle.acl_people.specs.KnownPeople.{users_of}
use Rattle.acl_people.specs.NameTables.{has_name}
use Rattle.facl_answers.specs.Inner.{placed_of, placed_in}
use Rattle.facl_answers.proofs.placed_users.add_gone.Given as goal

abbrev pub invariant-loop-user : goal.invariant-loop-user
invariant-loop-user l =
    map placed_of l.users.items
    ≡ map placed_of l.initial.users.items ++ map (λ row. placed_in l.loaded l.now row.name) (filter (λ row. not (has_name row.name (users_of l.now))) (take l.user l.loaded.users))
