-- The users and groups that are known: the counted rows of passwd(5) and group(5).
use Rattle.std.specs.Prelude.{◌≡◌, ◌≤◌, ℕ, List, [], ◌∷◌, map, filter, length, slice_get, Bool, true, false, nat_le, Option, option_map, Result, Ok, Err, if◌then◌else◌}
use Rattle.std.specs.List.{list_any}
use Rattle.std.specs.Str.{bytes_eq}
use Rattle.std.specs.FinSet.{from_list}
use Rattle.acl_entry.specs.Person.{Person}
use Rattle.acl_text.specs.declared.rows.PasswdRow.{PasswdRow}
use Rattle.acl_text.specs.declared.rows.GroupRow.{GroupRow}
use Rattle.acl_text.specs.declared.fault.TextFault.{TextFault}
use Rattle.acl_text.specs.InTurn.{GivesUnless}
use Rattle.acl_text.specs.Naming.{Naming}
use Rattle.acl_text.specs.Rows.{passwd_of, group_of, most_rows}
use Rattle.acl_people.specs.declared.fault.LoadFault.{LoadFault}
use Rattle.acl_people.specs.declared.fault.LoadFault.TheVariants.{AlreadyLoaded, Text, NoMemory}
use Rattle.acl_people.specs.NameTables.{Named, id_named, name_shown, AreNames, IsNaming}
use Rattle.acl_people.specs.Entries.{user_entry, group_entry}

-- the counted rows, and which texts were loaded
pub record KnownPeople : Type 0 where
  pub users : List PasswdRow
  pub groups : List GroupRow
  pub passwd_loaded : Bool
  pub group_loaded : Bool

-- nobody is known
abbrev pub nobody : KnownPeople
nobody = record { users = []; groups = []; passwd_loaded = false; group_loaded = false }

-- the users' names and ids, in the order of their rows
abbrev pub users_of : KnownPeople → List Named
users_of known = map user_entry known.users

-- the groups' names and ids, in the order of their rows
abbrev pub groups_of : KnownPeople → List Named
groups_of known = map group_entry known.groups

-- who is called what, by the rows that are known
abbrev pub naming_of : KnownPeople → Naming
naming_of known = record {
  user_id = λ name. id_named name (users_of known);
  group_id = λ name. id_named name (groups_of known);
  user_name = λ id. name_shown id (users_of known);
  group_name = λ id. name_shown id (groups_of known);
}

-- a group's row names the user
abbrev pub names_user : List ℕ → GroupRow → Bool
names_user name row = list_any (λ member. bytes_eq member name) row.names

-- a user's groups: the primary group, and each group whose row names the user
abbrev pub gids_of : List GroupRow → PasswdRow → List ℕ
gids_of groups row = row.gid ∷ map (λ group. group.gid) (filter (names_user row.name) groups)

-- a user as the check of access sees one
abbrev pub person : List GroupRow → PasswdRow → Person
person groups row = record { uid = row.uid; groups = from_list (gids_of groups row) }

-- every user, in the order of the rows
abbrev pub persons : KnownPeople → List Person
persons known = map (person known.groups) known.users

-- the user at a place
abbrev pub subject : KnownPeople → ℕ → Option Person
subject known at = option_map (person known.groups) (slice_get known.users at)

abbrev pub loaded : {A : Type 0} → (A → KnownPeople) → Result A TextFault → Result KnownPeople LoadFault
loaded put (Ok rows) = Ok (put rows)
loaded put (Err fault) = Err (Text fault)

-- the users are those of a passwd text, which is loaded once
abbrev pub load_passwd : KnownPeople → List ℕ → Result KnownPeople LoadFault
load_passwd known bytes =
    if known.passwd_loaded then Err AlreadyLoaded
    else loaded (λ rows. record { users = rows; groups = known.groups; passwd_loaded = true; group_loaded = known.group_loaded }) (passwd_of bytes)

-- the groups are those of a group text, which is loaded once
abbrev pub load_group : KnownPeople → List ℕ → Result KnownPeople LoadFault
load_group known bytes =
    if known.group_loaded then Err AlreadyLoaded
    else loaded (λ rows. record { users = known.users; groups = rows; passwd_loaded = known.passwd_loaded; group_loaded = true }) (group_of bytes)

-- what is true of all people: at most `most_rows` users and as many groups, each name in one row
pub record IsSound (known : KnownPeople) : Type 0 where
  pub few_users : length known.users ≤ most_rows
  pub few_groups : length known.groups ≤ most_rows
  pub user_names : AreNames (users_of known)
  pub group_names : AreNames (groups_of known)

-- there is no room for one more user
abbrev pub is_full : KnownPeople → Bool
is_full known = nat_le most_rows (length known.users)

-- these rows, and which texts were loaded
abbrev pub known_by : List PasswdRow → List GroupRow → Bool → Bool → KnownPeople
known_by users groups passwd group = record { users = users; groups = groups; passwd_loaded = passwd; group_loaded = group }

-- a load gives these people, or exactly this fault, unless memory runs out
abbrev pub Loads : Result KnownPeople LoadFault → Result KnownPeople LoadFault → Type 0
Loads result is = GivesUnless NoMemory (λ people. people) result is

-- a text is loaded once, whatever memory there is
abbrev pub LoadsOnce : Result KnownPeople LoadFault → Bool → Type 0
LoadsOnce result was_loaded = was_loaded ≡ true → result ≡ Err AlreadyLoaded

-- each name that a user's id prints as is found under that id
abbrev pub UsersAreReadBack : KnownPeople → Type 0
UsersAreReadBack known = IsNaming (naming_of known).user_id (naming_of known).user_name

-- each name that a group's id prints as is found under that id
abbrev pub GroupsAreReadBack : KnownPeople → Type 0
GroupsAreReadBack known = IsNaming (naming_of known).group_id (naming_of known).group_name
