-- Changes of users and groups: gpasswd(1), usermod(8), useradd(8), userdel(8).
use Rattle.std.specs.Prelude.{◌≡◌, ◌<◌, ℕ, length, List, [], ◌∷◌, ◌++◌, map, filter, slice_get, slice_set, Bool, true, false, not, if◌then◌else◌}
use Rattle.std.specs.List.{remove}
use Rattle.std.specs.Option.{option_map_or}
use Rattle.std.specs.Str.{bytes_eq}
use Rattle.acl_text.specs.declared.rows.PasswdRow.{PasswdRow}
use Rattle.acl_text.specs.declared.rows.GroupRow.{GroupRow}
use Rattle.acl_text.specs.Rows.{most_rows}
use Rattle.acl_people.specs.NameTables.{has_name}
use Rattle.acl_people.specs.Entries.{user_row}
use Rattle.acl_people.specs.KnownPeople.{KnownPeople, names_user, users_of}

-- the rows with the one at a place changed
abbrev pub change_at : {R : Type 0} → ℕ → (R → R) → List R → List R
change_at at change rows = option_map_or (λ row. slice_set rows at (change row)) (slice_get rows at) rows

-- other rows
abbrev pub with_rows : List PasswdRow → List GroupRow → KnownPeople → KnownPeople
with_rows users groups known = record { users = users; groups = groups; passwd_loaded = known.passwd_loaded; group_loaded = known.group_loaded }

-- one more user's row, the last; the users count as loaded
abbrev pub with_user_row : PasswdRow → KnownPeople → KnownPeople
with_user_row row known = record { users = known.users ++ row ∷ []; groups = known.groups; passwd_loaded = true; group_loaded = known.group_loaded }

-- the name of the user at a place
abbrev pub name_of : ℕ → KnownPeople → List ℕ
name_of user known = option_map_or (λ row. row.name) (slice_get known.users user) []

-- the id of the group at a place
abbrev pub gid_of : ℕ → KnownPeople → ℕ
gid_of group known = option_map_or (λ row. row.gid) (slice_get known.groups group) 0

-- a group's row with one more name, the last
abbrev pub name_added : List ℕ → GroupRow → GroupRow
name_added name row = record { name = row.name; gid = row.gid; names = row.names ++ name ∷ [] }

-- names without one, however often it occurs
abbrev pub names_but : List ℕ → List (List ℕ) → List (List ℕ)
names_but name names = filter (λ member. not (bytes_eq member name)) names

-- a group's row without a name, however often it occurs
abbrev pub name_removed : List ℕ → GroupRow → GroupRow
name_removed name row = record { name = row.name; gid = row.gid; names = names_but name row.names }

-- the row of the group names the user
abbrev pub is_member : ℕ → ℕ → KnownPeople → Bool
is_member user group known = option_map_or (names_user (name_of user known)) (slice_get known.groups group) false

-- gpasswd -a: the row of the group names the user, last where it did not before
abbrev pub with_member : ℕ → ℕ → KnownPeople → KnownPeople
with_member user group known =
    if is_member user group known then known
    else with_rows known.users (change_at group (name_added (name_of user known)) known.groups) known

-- gpasswd -d: the row of the group does not name the user
abbrev pub without_member : ℕ → ℕ → KnownPeople → KnownPeople
without_member user group known = with_rows known.users (change_at group (name_removed (name_of user known)) known.groups) known

-- a user's row with another primary group
abbrev pub with_gid : ℕ → PasswdRow → PasswdRow
with_gid gid row = record { name = row.name; uid = row.uid; gid = gid }

-- usermod -g: the user's primary group is this one
abbrev pub with_primary_group : ℕ → ℕ → KnownPeople → KnownPeople
with_primary_group user group known = with_rows (change_at user (with_gid (gid_of group known)) known.users) known.groups known

-- useradd: one more user, the last, whose primary group is this one; the users count as loaded
abbrev pub with_user : List ℕ → ℕ → ℕ → KnownPeople → KnownPeople
with_user name uid group known = with_user_row (user_row name uid (gid_of group known)) known

-- userdel: the user's row is gone, and no group's row names the user
abbrev pub without_user : ℕ → KnownPeople → KnownPeople
without_user user known = with_rows (remove known.users user) (map (name_removed (name_of user known)) known.groups) known

-- places of a user and of a group
pub record AreThere (user_at group_at : ℕ) (known : KnownPeople) : Type 0 where
  pub user : user_at < length known.users
  pub group : group_at < length known.groups

-- a user of a new name can be added to a group
pub record CanBeAdded (name : List ℕ) (group_at : ℕ) (known : KnownPeople) : Type 0 where
  pub new : has_name name (users_of known) ≡ false
  pub room : length known.users < most_rows
  pub group : group_at < length known.groups
