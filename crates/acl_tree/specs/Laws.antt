-- What commands leave as it is, and what edits of the files of a command leave at each path.
use Rattle.std.specs.Prelude.{◌≡◌, List, [], ◌∷◌, Bool, true, false, not, ◌&&◌, Some, Result, Ok, option_map, unwrap_or}
use Rattle.std.specs.List.{AllByRecursion, list_any}
use Rattle.std.specs.FinMap.{find}
use Rattle.acl_names.specs.Paths.{path_cmp, PathOf}
use Rattle.acl_text.specs.declared.record.DumpRecord.{DumpRecord}
use Rattle.acl_edit.specs.Edits.{no_flags}
use Rattle.acl_edit.specs.Laws.{ShowsRecalculated, BoundsRecalculated, MakesMask}
use Rattle.acl_edit.specs.Nodes.{is_directory}
use Rattle.acl_edit.specs.Changes.{Change, edit_of}
use Rattle.acl_edit.specs.declared.edit.Edit as edits
use Rattle.acl_edit.specs.declared.edit.EditFault.{EditFault}
use Rattle.acl_edit.specs.declared.node.Node.{Node}
use Rattle.acl_people.specs.KnownPeople.{names_user}
use Rattle.acl_text.specs.UserNames.{is_user_name}
use Rattle.acl_tree.specs.declared.command.Command.{Command}
use Rattle.acl_tree.specs.declared.command.Command.TheVariants.{Edit, Restore, Creat, Rm, Useradd, Userdel}
use Rattle.acl_tree.specs.declared.command.NewFile.{NewFile}
use Rattle.acl_tree.specs.declared.command.NewUser.{NewUser}
use Rattle.acl_tree.specs.Files.{Files, Recorded}
use Rattle.path_map.specs.Entries.{IsInOrder}
use Rattle.acl_tree.specs.Operands.{is_file}
use Rattle.acl_tree.specs.Restoring.{restore_one, paths_of, restored_tree}
use Rattle.acl_tree.specs.Sound.{IsSoundTree}
use Rattle.acl_tree.specs.EditCommand.{edit_one, edited_tree}
use Rattle.acl_tree.specs.State.{State}
use Rattle.acl_tree.specs.Step.{names, step}

-- ---- each file of an edit

-- each file of the command is what its edit makes of it, so the rules on one file are true at each of them, and every
-- other file is as it was
pub record EditsEach (edit : PathOf → Node → Result Node EditFault) (recursive : Bool) (paths : List PathOf) (old new : Recorded) : Type 0 where
  pub edited : (p : PathOf) (n : Node) → is_file recursive paths p ≡ true → find path_cmp p old.files ≡ Some n → option_map Ok (find path_cmp p new.files) ≡ Some (edit p n)
  pub others : (p : PathOf) → is_file recursive paths p ≡ false → find path_cmp p new.files ≡ find path_cmp p old.files

-- an edit makes of each file what the edit of that one file makes of it
abbrev pub EachFileIsEdited : Type 0
EachFileIsEdited =
    (recursive : Bool) (paths : List PathOf) (e : edits.Edit) (old new : Recorded) → IsInOrder old.files → edited_tree recursive paths e old ≡ Ok new
    → EditsEach (edit_one e recursive) recursive paths old new

-- and a restore what the restore of that one file makes of it
abbrev pub EachFileIsRestored : Type 0
EachFileIsRestored =
    (records : List DumpRecord) (old new : Recorded) → IsInOrder old.files → restored_tree records old ≡ Ok new → EditsEach (restore_one records) false (paths_of records) old new

-- the rules on the masks that a line leaves of one file
pub record KeepsMaskRules (old : Node) (line : Change) (new : Node) : Type 0 where
  pub made : MakesMask old line new
  pub shown : ShowsRecalculated old line new
  pub bounded : BoundsRecalculated old line new

-- those rules at each file of the command
abbrev pub MasksEach : Change → Bool → List PathOf → Recorded → Recorded → Type 0
MasksEach line recursive paths old new =
    (p : PathOf) (n m : Node) → is_file recursive paths p ≡ true → find path_cmp p old.files ≡ Some n → find path_cmp p new.files ≡ Some m → KeepsMaskRules n line m

-- they are true at each file of the command, whatever line edits it
abbrev pub EachFileKeepsMaskRules : Type 0
EachFileKeepsMaskRules =
    (recursive : Bool) (paths : List PathOf) (line : Change) (old new : Recorded) → IsInOrder old.files
    → edited_tree recursive paths (edit_of line) old ≡ Ok new → MasksEach line recursive paths old new

-- ---- what a command does not name

-- what it does not name stays as it is: recorded or not, and with its node
abbrev pub LeavesUnnamed : Command → State → State → Type 0
LeavesUnnamed command old new = (p : PathOf) → names command p ≡ false → find path_cmp p new.tree.files ≡ find path_cmp p old.tree.files

-- so it is with every command
abbrev pub UnnamedFilesStay : Type 0
UnnamedFilesStay = (command : Command) (old new : State) → IsInOrder old.tree.files → step old command ≡ Ok new → LeavesUnnamed command old new

-- ---- a file or a user who comes and goes

-- a new file that is removed again, a directory with recursion, leaves the state as it was
abbrev pub NewFileIsRemoved : Type 0
NewFileIsRemoved =
    (new : NewFile) (recursive : Bool) (old made : State) → (is_directory new.kind && not recursive) ≡ false → step old (Creat new) ≡ Ok made → step made (Rm (new.path ∷ []) recursive) ≡ Ok old

-- the state in which users count as loaded, as they do once one was added
abbrev pub with_users_loaded : State → State
with_users_loaded s = record s { people = record s.people { passwd_loaded = true } }

-- a user who is added, under a name that no group's row has, and removed again leaves the state as it was, but that
-- users count as loaded
abbrev pub NewUserIsRemoved : Type 0
NewUserIsRemoved =
    (new : NewUser) (old made : State) → is_user_name new.name ≡ true → list_any (names_user new.name) old.people.groups ≡ false
    → step old (Useradd new) ≡ Ok made → step made (Userdel new.name) ≡ Ok (with_users_loaded old)

-- where users were loaded before, it is the same state
abbrev pub NewUserIsRemovedWhole : Type 0
NewUserIsRemovedWhole =
    (new : NewUser) (old made : State) → is_user_name new.name ≡ true → list_any (names_user new.name) old.people.groups ≡ false
    → old.people.passwd_loaded ≡ true → step old (Useradd new) ≡ Ok made → step made (Userdel new.name) ≡ Ok old

-- ---- a restore of what is

-- the record contains what the file is: its lists and its flags, and its owner and group where it names them
pub record Contains (r : DumpRecord) (n : Node) : Type 0 where
  pub access : r.access ≡ n.label.acl
  pub default : r.dacl ≡ n.dacl
  pub owner : unwrap_or r.owner n.label.owner ≡ n.label.owner
  pub group : unwrap_or r.group n.label.group ≡ n.label.group
  pub flags : unwrap_or r.flags no_flags ≡ n.flags

-- the record's path is recorded, and its file is what the record contains
pub record IsAsRecorded (t : Files) (r : DumpRecord) : Type 0 where
  pub node : Node
  pub recorded : find path_cmp r.path t ≡ Some node
  pub contains : Contains r node

-- a restore of such records changes nothing
abbrev pub RestoreOfWhatIsChangesNothing : Type 0
RestoreOfWhatIsChangesNothing = (records : List DumpRecord) (state : State) → IsSoundTree state.tree → AllByRecursion (IsAsRecorded state.tree.files) records → step state (Restore records) ≡ Ok state
