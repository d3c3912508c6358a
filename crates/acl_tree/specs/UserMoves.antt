-- How a change of one user moves the users.
use Rattle.std.specs.Prelude.{ℕ, List, [], ◌∷◌, Result, Ok, Err}
use Rattle.acl_tree.specs.declared.fault.TreeFault.{TreeFault}
use Rattle.acl_people.specs.KnownPeople.{KnownPeople}
use Rattle.acl_people.specs.Moves.{moved_groups}
use Rattle.acl_tree.specs.declared.user_change.UserChange.{UserChange}
use Rattle.acl_tree.specs.declared.user_change.UserChange.TheVariants.{Unchanged, Memberships, Removed}
use Rattle.acl_tree.specs.Memberships.{ChangedUser}

-- a user who joined or left no group did not move
abbrev pub move_of : ℕ → List ℕ → UserChange
move_of user [] = Unchanged
move_of user (g ∷ gs) = Memberships user (g ∷ gs)

-- how a change of one user's groups moves the users
abbrev pub change_moves : KnownPeople → Result ChangedUser TreeFault → UserChange
change_moves known (Ok change) = move_of change.user (moved_groups known change.people change.user)
change_moves known (Err fault) = Unchanged

-- how the removal of a user moves the users
abbrev pub user_left : Result ChangedUser TreeFault → UserChange
user_left (Ok change) = Removed change.user
user_left (Err fault) = Unchanged
