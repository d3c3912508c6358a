-- load: the texts of users, groups and files.
use Rattle.std.specs.Prelude.{◌≡◌, ◌<◌, ℕ, List, length, Bool, true, false, nat_lt, ◌||◌, if◌then◌else◌, Result, Ok, Err}
use Rattle.acl_text.specs.declared.fault.TextFault.{TextFault}
use Rattle.acl_text.specs.declared.record.DumpRecord.{DumpRecord}
use Rattle.acl_text.specs.declared.record.DumpUse.TheVariants as uses
use Rattle.acl_text.specs.Records.{dump_of}
use Rattle.acl_text.specs.Rows.{passwd_of, group_of}
use Rattle.acl_tree.specs.Files.{max_files}
use Rattle.acl_tree.specs.Loading.{files_of}
use Rattle.acl_tree.specs.declared.fault.TreeFault.{TreeFault}
use Rattle.acl_tree.specs.declared.fault.TreeFault.TheVariants.{TooMany, AlreadyLoaded, Text, NoMemory}
use Rattle.acl_people.specs.declared.fault.LoadFault.{LoadFault}
use Rattle.acl_people.specs.declared.fault.LoadFault.TheVariants as loads
use Rattle.acl_people.specs.KnownPeople.{KnownPeople, load_passwd, load_group, naming_of}
use Rattle.acl_tree.specs.declared.command.Table.{Table}
use Rattle.acl_tree.specs.declared.command.Table.TheVariants.{Passwd, Group, Dump}
use Rattle.acl_tree.specs.State.{State}
use Rattle.acl_tree.specs.declared.user_change.UserChange.{UserChange}
use Rattle.acl_tree.specs.declared.user_change.UserChange.TheVariants.{Loaded, Unchanged}

abbrev pub tree_fault : LoadFault → TreeFault
tree_fault loads.AlreadyLoaded = AlreadyLoaded
tree_fault (loads.Text fault) = Text fault
tree_fault loads.NoMemory = NoMemory

abbrev pub with_people : State → Result KnownPeople LoadFault → Result State TreeFault
with_people s (Ok people) = Ok (record s { people = people })
with_people s (Err fault) = Err (tree_fault fault)

abbrev pub with_records : State → Result (List DumpRecord) TextFault → Result State TreeFault
with_records s (Err fault) = Err (Text fault)
with_records s (Ok records) =
    if nat_lt max_files (length records) then Err TooMany
    else Ok (record s { tree = record { files = files_of records; loaded = true } })

-- the records of a dump, whose users and groups are looked up
abbrev pub dump_records : KnownPeople → List ℕ → Result (List DumpRecord) TextFault
dump_records known bytes = dump_of (naming_of known) uses.Load bytes

abbrev pub load_dump : State → List ℕ → Result State TreeFault
load_dump s bytes = with_records s (dump_records s.people bytes)

abbrev pub load : State → Table → List ℕ → Result State TreeFault
load s Passwd bytes = if s.tree.loaded then Err AlreadyLoaded else with_people s (load_passwd s.people bytes)
load s Group bytes = if s.tree.loaded then Err AlreadyLoaded else with_people s (load_group s.people bytes)
load s Dump bytes = if s.tree.loaded then Err AlreadyLoaded else load_dump s bytes

-- whether a text was loaded, or can be no more: users and groups are loaded before a dump
abbrev pub is_loaded : State → Table → Bool
is_loaded s Passwd = s.tree.loaded || s.people.passwd_loaded
is_loaded s Group = s.tree.loaded || s.people.group_loaded
is_loaded s Dump = s.tree.loaded

-- how a load moves the users: before a dump is loaded no right is judged
abbrev pub load_moves : Table → UserChange
load_moves Passwd = Loaded
load_moves Group = Loaded
load_moves Dump = Unchanged

-- a load of files names every path, and one of users or groups none
abbrev pub load_names : Table → Bool
load_names Passwd = false
load_names Group = false
load_names Dump = true

-- ---- why it is refused

-- a text that is loaded has this fault
abbrev pub IsTextFault : KnownPeople → Table → List ℕ → TextFault → Type 0
IsTextFault known Passwd bytes fault = passwd_of bytes ≡ Err fault
IsTextFault known Group bytes fault = group_of bytes ≡ Err fault
IsTextFault known Dump bytes fault = dump_records known bytes ≡ Err fault

-- a dump has more records than a tree may have files
pub record IsTooLong (known : KnownPeople) (bytes : List ℕ) : Type 0 where
  pub records : List DumpRecord
  pub read : dump_records known bytes ≡ Ok records
  pub many : max_files < length records

-- which faults apply, whatever other ones do
abbrev pub Applies : State → Table → List ℕ → TreeFault → Type 0
Applies s which bytes AlreadyLoaded = is_loaded s which ≡ true
Applies s which bytes (Text fault) = IsTextFault s.people which bytes fault
Applies s which bytes TooMany = (which ≡ Dump) × IsTooLong s.people bytes
Applies s which bytes fault = ⊥
