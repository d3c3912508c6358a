-- useradd(8): a user comes.
use Rattle.std.specs.Prelude.{◌≡◌, ◌≤◌, ℕ, length, nat_le, true, if◌then◌else◌, Result, Ok, Err}
use Rattle.acl_text.specs.Rows.{most_rows}
use Rattle.acl_text.specs.Results.{◌>>=◌}
use Rattle.acl_people.specs.NameTables.{has_name, has_id}
use Rattle.acl_people.specs.KnownPeople.{KnownPeople, users_of}
use Rattle.acl_people.specs.Changes.{with_user}
use Rattle.acl_tree.specs.declared.command.NewUser.{NewUser}
use Rattle.acl_tree.specs.declared.fault.TreeFault.{TreeFault}
use Rattle.acl_tree.specs.declared.fault.TreeFault.TheVariants.{UserExists, UidExists, NoSuchGroup, TooManyUsers}
use Rattle.acl_tree.specs.Causes.{MeansNoGroup}
use Rattle.acl_tree.specs.Memberships.{ChangedUser, group_at}

-- one user more in a group, if there is room
abbrev pub add_to : NewUser → KnownPeople → ℕ → Result ChangedUser TreeFault
add_to new known group =
    if nat_le most_rows (length known.users) then Err TooManyUsers
    else Ok (record { user = length known.users; people = with_user new.name new.uid group known })

-- useradd: a user of a new name and a new id
abbrev pub useradd : NewUser → KnownPeople → Result ChangedUser TreeFault
useradd new known =
    if has_name new.name (users_of known) then Err (UserExists new.name)
    else (if has_id new.uid (users_of known) then Err (UidExists new.uid) else (group_at known new.group >>= add_to new known))

-- which faults apply, whatever other ones do
abbrev pub Applies : NewUser → KnownPeople → TreeFault → Type 0
Applies new known (UserExists name) = (name ≡ new.name) × (has_name new.name (users_of known) ≡ true)
Applies new known (UidExists id) = (id ≡ new.uid) × (has_id new.uid (users_of known) ≡ true)
Applies new known (NoSuchGroup word) = (word ≡ new.group) × MeansNoGroup known new.group
Applies new known TooManyUsers = most_rows ≤ length known.users
Applies new known fault = ⊥
