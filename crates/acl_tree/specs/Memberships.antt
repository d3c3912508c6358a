-- A change of one user.
use Rattle.std.specs.Prelude.{ℕ, List, ok_or, Result}
use Rattle.acl_people.specs.NameTables.{place_of_word}
use Rattle.acl_people.specs.KnownPeople.{KnownPeople, users_of, groups_of}
use Rattle.acl_tree.specs.declared.fault.TreeFault.{TreeFault}
use Rattle.acl_tree.specs.declared.fault.TreeFault.TheVariants.{NoSuchUser, NoSuchGroup}

-- a user's place, and the people after a change of that user
pub record ChangedUser : Type 0 where
  pub user : ℕ
  pub people : KnownPeople

-- the place of the user that a word means
abbrev pub user_at : KnownPeople → List ℕ → Result ℕ TreeFault
user_at known word = ok_or (place_of_word word (users_of known)) (NoSuchUser word)

-- the place of the group that a word means
abbrev pub group_at : KnownPeople → List ℕ → Result ℕ TreeFault
group_at known word = ok_or (place_of_word word (groups_of known)) (NoSuchGroup word)
