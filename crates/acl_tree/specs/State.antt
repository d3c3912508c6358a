-- The whole state: the recorded files, and the users and groups.
use Rattle.std.specs.Prelude.{Result, Ok, refl}
use Rattle.std.specs.Coded.{Coded, code_by, coded×}
use Rattle.acl_tree.specs.Files.{Recorded, coded_recorded, no_files}
use Rattle.acl_tree.specs.declared.fault.TreeFault.{TreeFault}
use Rattle.acl_people.specs.KnownPeople.{KnownPeople, nobody}
use Rattle.acl_people.specs.contracts.people.People as people_contracts
use Rattle.acl_tree.specs.Memberships.{ChangedUser}

-- the recorded files, and the users and groups
pub record State : Type 0 where
  pub tree : Recorded
  pub people : KnownPeople

abbrev pub coded_state : Coded State
coded_state =
    code_by (Recorded × KnownPeople) (coded× coded_recorded people_contracts.the_row.coded) (λ s. (s.tree, s.people)) (λ p. record { tree = p.0; people = p.1 }) (λ _. refl)

abbrev pub state_from : Recorded → KnownPeople → State
state_from tree people = record { tree = tree; people = people }

-- no file is recorded, and nobody is known
abbrev pub nothing : State
nothing = record { tree = no_files; people = nobody }

-- the state with the tree that a command makes
abbrev pub with_tree : State → Recorded → Result State TreeFault
with_tree s tree = Ok (record s { tree = tree })

-- the state with the people that a change of a user makes
abbrev pub with_change : State → ChangedUser → Result State TreeFault
with_change s change = Ok (record s { people = change.people })
