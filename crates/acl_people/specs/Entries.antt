-- The names and ids of rows.
use Rattle.std.specs.Prelude.{◌≡◌, ℕ, List, map}
use Rattle.acl_text.specs.declared.rows.PasswdRow.{PasswdRow}
use Rattle.acl_text.specs.declared.rows.GroupRow.{GroupRow}
use Rattle.acl_people.specs.NameTables.{Named, AreCounted}

abbrev pub user_entry : PasswdRow → Named
user_entry row = (row.name, row.uid)

abbrev pub group_entry : GroupRow → Named
group_entry row = (row.name, row.gid)

-- rows of counted users
abbrev pub AreUsers : List PasswdRow → Type 0
AreUsers rows = AreCounted (map user_entry rows)

-- rows of counted groups
abbrev pub AreGroups : List GroupRow → Type 0
AreGroups rows = AreCounted (map group_entry rows)

-- a name table has the names and ids of rows, which are counted
pub record IsTableOf {R : Type 0} (entry : R → Named) (table : List Named) (rows : List R) : Type 0 where
  pub all : table ≡ map entry rows
  pub counted : AreCounted (map entry rows)

-- a user's row
abbrev pub user_row : List ℕ → ℕ → ℕ → PasswdRow
user_row name uid gid = record { name = name; uid = uid; gid = gid }
