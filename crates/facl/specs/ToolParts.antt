-- Why a line is refused once its words are read: which parts of it are at fault, each by itself, and their order.
use Rattle.std.specs.Prelude.{◌≡◌, ◌+◌, ℕ, Bool, true, false, List, [], ◌∷◌, slice_get, Option, Some, None, Result, Ok, Err}
use Rattle.std.specs.FinMap.{find}
use Rattle.acl_edit.specs.declared.edit.Edit.{Edit}
use Rattle.acl_edit.specs.declared.edit.Edit.TheVariants.{Put, Flatten}
use Rattle.acl_tree.specs.declared.fault.TreeFault.TheVariants.{NoSuchFile, NoSuchUser}
use Rattle.acl_names.specs.Paths.{path_of, path_cmp, PathOf}
use Rattle.acl_people.specs.KnownPeople.{KnownPeople, users_of}
use Rattle.acl_people.specs.NameTables.{place_of_word}
use Rattle.acl_text.specs.declared.entries.Spec.{Spec}
use Rattle.acl_text.specs.declared.entries.Want.TheVariants.{WithPerms, WithoutPerms}
use Rattle.acl_text.specs.declared.fault.Which.TheVariants.{Access, Default}
use Rattle.acl_tree.specs.declared.command.Command.TheVariants as commands
use Rattle.acl_tree.specs.declared.command.NewFile.{NewFile}
use Rattle.acl_tree.specs.Files.{Files}
use Rattle.acl_tree.specs.State.{State}
use Rattle.facl_script.specs.Forms.{Text}
use Rattle.facl_output.specs.declared.fault.LineFault.{LineFault}
use Rattle.facl_output.specs.declared.fault.LineFault.TheVariants as faults
use Rattle.facl_output.specs.declared.fault.Source.TheVariants.{Entry, DefaultEntry}
use Rattle.facl_tools.specs.Lists.{list_of_text}
use Rattle.facl_tools.specs.Load as load
use Rattle.facl_tools.specs.Operands.{bad_operand, path_at, paths_from, name_meant}
use Rattle.facl_tools.specs.Replies.{Reply, done}
use Rattle.facl_tools.specs.Setattr as setattr
use Rattle.facl_tools.specs.Setfacl.{entries_given, entries_of_line, both_at, edit_of, edited_or_tested, records_of, restored_or_tested}
use Rattle.facl_tools.specs.Useradd.{new_user}
use Rattle.facl_tools.specs.declared.chacl.Task.{Task}
use Rattle.facl_tools.specs.declared.chacl.Task.TheVariants as tasks
use Rattle.facl_tools.specs.declared.creat.CreatLine.{CreatLine}
use Rattle.facl_tools.specs.declared.setfacl.ChangeLine.{ChangeLine}
use Rattle.facl_tools.specs.declared.setfacl.SetfaclLine.{SetfaclLine}
use Rattle.facl_tools.specs.declared.setfacl.SetfaclLine.TheVariants as setfacl
use Rattle.facl_tools.specs.declared.setfacl_entries.ChangeEntries.{ChangeEntries}
use Rattle.facl.specs.declared.tools.below.Shown.{Shown}
use Rattle.facl.specs.declared.tools.below.Shown.TheVariants.{Counts, Folders, Listed}
use Rattle.facl.specs.declared.tools.ToolLine.{ToolLine}
use Rattle.facl.specs.declared.tools.ToolLine.TheVariants as lines

-- ---- the parts of a line, and their order

-- Where a fault of a line is. Its texts: of setfacl(1) the entries that are removed, modified and set, or the dump; of
-- chacl(1) the access list and then the default list, or the one list that is given; of setattr the attribute. Then an
-- entry that is both removed and modified, the word of an operand at a place counted from 0, the user whom a
-- question names, the file of such an operand if files are looked at, and else what is done with all of this.
pub data Part : Type 0 where
  in_first_text : Part
  in_second_text : Part
  in_third_text : Part
  in_two_texts : Part
  in_operand : ℕ → Part
  in_user : Part
  in_file : ℕ → Part
  in_command : Part

-- the order in which the parts are reported; operands share a rank, and so do their files
abbrev pub rank : Part → ℕ
rank in_first_text = 0
rank in_second_text = 1
rank in_third_text = 2
rank in_two_texts = 3
rank (in_operand n) = 4
rank in_user = 5
rank (in_file n) = 6
rank in_command = 7

-- operands are reported by their places
abbrev pub place : Part → ℕ
place (in_operand n) = n
place (in_file n) = n
place part = 0

-- ---- what a fault is about

-- operand `n`, counted from 0, is no path
pub record IsNoPath (words : List Text) (n : ℕ) : Type 0 where
  pub word : Text
  pub at : slice_get words n ≡ Some word
  pub means_none : path_of word ≡ None

-- the fault of such an operand: places are counted from 1
abbrev pub IsBadOperand : List Text → ℕ → LineFault → Type 0
IsBadOperand words n fault = (fault ≡ bad_operand (1 + n)) × IsNoPath words n

-- operand `n`, counted from 0, is the path of no recorded file
pub record IsUnrecorded (t : Files) (words : List Text) (n : ℕ) (fault : LineFault) : Type 0 where
  pub word : Text
  pub path : PathOf
  pub at : slice_get words n ≡ Some word
  pub means : path_of word ≡ Some path
  pub missing : find path_cmp path t ≡ None
  pub is : fault ≡ faults.Tree (NoSuchFile path)

-- a word means no user
abbrev pub IsNoUser : KnownPeople → Text → LineFault → Type 0
IsNoUser known word fault = (fault ≡ faults.Tree (NoSuchUser (name_meant word))) × (place_of_word (name_meant word) (users_of known) ≡ None)

-- what is done with what is read, where it can be read, is refused
pub record IsUseRefused {A : Type 0} (read : Result A LineFault) (use_of : A → Result Reply LineFault) (fault : LineFault) : Type 0 where
  pub value : A
  pub is_read : read ≡ Ok value
  pub refused : use_of value ≡ Err fault

-- the same of two things that are read
pub record IsUseOfBothRefused {A B : Type 0} (read : Result A LineFault) (other : Result B LineFault) (use_of : A → B → Result Reply LineFault) (fault : LineFault) : Type 0 where
  pub value : A
  pub other_value : B
  pub is_read : read ≡ Ok value
  pub is_other_read : other ≡ Ok other_value
  pub refused : use_of value other_value ≡ Err fault

-- the same of three
pub record IsUseOfAllRefused {A B C : Type 0} (read : Result A LineFault) (other : Result B LineFault) (third : Result C LineFault)
    (use_of : A → B → C → Result Reply LineFault) (fault : LineFault) : Type 0 where
  pub value : A
  pub other_value : B
  pub third_value : C
  pub is_read : read ≡ Ok value
  pub is_other_read : other ≡ Ok other_value
  pub is_third_read : third ≡ Ok third_value
  pub refused : use_of value other_value third_value ≡ Err fault

-- the first entry of the modified ones that is removed too; whatever entries are set
abbrev pub both_of : ChangeLine → List Spec → List Spec → Option ℕ
both_of line removed modified = both_at line.flags.as_default (record { remove = removed; modify = modified; set = [] })

-- an entry is both removed and modified
pub record IsInBoth (s : State) (line : ChangeLine) (text : List ℕ) (fault : LineFault) : Type 0 where
  pub removed : List Spec
  pub modified : List Spec
  pub at : ℕ
  pub is_removed : entries_given s.people WithoutPerms line.removed text ≡ Ok removed
  pub is_modified : entries_given s.people WithPerms line.modified text ≡ Ok modified
  pub found : both_of line removed modified ≡ Some at
  pub is : fault ≡ faults.Both at

-- ---- which parts are at fault, whatever other ones are

-- of a line that reads nothing but its flags, and looks at the whole state
abbrev pub OfNothing : Part → LineFault → Type 0
OfNothing part fault = ⊥

-- of a line that has no part but what it does
abbrev pub OfCommand : Result Reply LineFault → Part → LineFault → Type 0
OfCommand reply in_command fault = reply ≡ Err fault
OfCommand reply part fault = ⊥

-- of a line with operands that are paths
abbrev pub OfPaths : {A : Type 0} → List Text → Result A LineFault → (A → Result Reply LineFault) → Part → LineFault → Type 0
OfPaths words paths use_of (in_operand n) fault = IsBadOperand words n fault
OfPaths words paths use_of in_command fault = IsUseRefused paths use_of fault
OfPaths words paths use_of part fault = ⊥

-- of a line that looks at the files of its operands
abbrev pub OfListing : Files → List Text → Part → LineFault → Type 0
OfListing t words (in_operand n) fault = IsBadOperand words n fault
OfListing t words (in_file n) fault = IsUnrecorded t words n fault
OfListing t words part fault = ⊥

-- of a question about a user
abbrev pub OfUser : KnownPeople → Text → Part → LineFault → Type 0
OfUser known word in_user fault = IsNoUser known word fault
OfUser known word part fault = ⊥

-- of a question about a user and files
abbrev pub OfUserAndFiles : State → Text → List Text → Part → LineFault → Type 0
OfUserAndFiles s word files (in_operand n) fault = IsBadOperand files n fault
OfUserAndFiles s word files in_user fault = IsNoUser s.people word fault
OfUserAndFiles s word files (in_file n) fault = IsUnrecorded s.tree.files files n fault
OfUserAndFiles s word files part fault = ⊥

-- of a line of `below`
abbrev pub OfBelow : State → Shown → List Text → Part → LineFault → Type 0
OfBelow s Counts files = OfListing s.tree.files files
OfBelow s (Listed word most) files = OfUserAndFiles s word files
OfBelow s (Folders None depth) files = OfListing s.tree.files files
OfBelow s (Folders (Some word) depth) files = OfUserAndFiles s word files

-- of a line with a text
abbrev pub OfText : {A : Type 0} → Result A LineFault → (A → Result Reply LineFault) → Part → LineFault → Type 0
OfText text use_of in_first_text fault = text ≡ Err fault
OfText text use_of in_command fault = IsUseRefused text use_of fault
OfText text use_of part fault = ⊥

-- of a line with a text, and files
abbrev pub OfTextAndFiles : {A : Type 0} → Result A LineFault → List Text → (A → List PathOf → Result Reply LineFault) → Part → LineFault → Type 0
OfTextAndFiles text files use_of in_first_text fault = text ≡ Err fault
OfTextAndFiles text files use_of (in_operand n) fault = IsBadOperand files n fault
OfTextAndFiles text files use_of in_command fault = IsUseOfBothRefused text (paths_from 1 files) use_of fault
OfTextAndFiles text files use_of part fault = ⊥

-- of a line with two texts, and files
abbrev pub OfTwoTextsAndFiles : {A B : Type 0} → Result A LineFault → Result B LineFault → List Text → (A → B → List PathOf → Result Reply LineFault) → Part → LineFault → Type 0
OfTwoTextsAndFiles text other files use_of in_first_text fault = text ≡ Err fault
OfTwoTextsAndFiles text other files use_of in_second_text fault = other ≡ Err fault
OfTwoTextsAndFiles text other files use_of (in_operand n) fault = IsBadOperand files n fault
OfTwoTextsAndFiles text other files use_of in_command fault = IsUseOfAllRefused text other (paths_from 1 files) use_of fault
OfTwoTextsAndFiles text other files use_of part fault = ⊥

-- the entries of a line are put into the files of these paths
abbrev pub entries_put : State → ChangeLine → ChangeEntries → List PathOf → Result Reply LineFault
entries_put s line entries paths = edited_or_tested line.test s line.recursive paths (edit_of line.flags entries)

-- of a line of setfacl(1) that changes lists
abbrev pub OfChange : State → ChangeLine → List ℕ → Part → LineFault → Type 0
OfChange s line text in_first_text fault = entries_given s.people WithoutPerms line.removed text ≡ Err fault
OfChange s line text in_second_text fault = entries_given s.people WithPerms line.modified text ≡ Err fault
OfChange s line text in_third_text fault = entries_given s.people WithPerms line.set text ≡ Err fault
OfChange s line text in_two_texts fault = IsInBoth s line text fault
OfChange s line text (in_operand n) fault = IsBadOperand line.files n fault
OfChange s line text in_command fault = IsUseOfBothRefused (entries_of_line s.people line text) (paths_from 1 line.files) (entries_put s line) fault
OfChange s line text part fault = ⊥

-- of a line of setfacl(1)
abbrev pub OfSetfacl : State → SetfaclLine → List ℕ → Part → LineFault → Type 0
OfSetfacl s (setfacl.Change line) text = OfChange s line text
OfSetfacl s (setfacl.Restore test) text = OfText (records_of s.people text) (restored_or_tested test s)

-- these files are edited
abbrev pub OfEdit : State → Bool → Edit → List Text → Part → LineFault → Type 0
OfEdit s recursive edit files = OfPaths files (paths_from 1 files) (λ paths. done s (commands.Edit paths edit recursive))

-- of a task of chacl(1)
abbrev pub OfTask : State → Bool → Task → List Text → Part → LineFault → Type 0
OfTask s recursive (tasks.PutAccess text) files =
    OfTextAndFiles (list_of_text s.people Entry Access text) files (λ access paths. done s (commands.Edit paths (Put (Some access) None) recursive))
OfTask s recursive (tasks.PutDefault text) files =
    OfTextAndFiles (list_of_text s.people DefaultEntry Default text) files (λ dacl paths. done s (commands.Edit paths (Put None (Some dacl)) recursive))
OfTask s recursive (tasks.PutBoth text default_text) files =
    OfTwoTextsAndFiles (list_of_text s.people Entry Access text) (list_of_text s.people DefaultEntry Default default_text) files
    (λ access dacl paths. done s (commands.Edit paths (Put (Some access) (Some dacl)) recursive))
OfTask s recursive tasks.RemoveAccess files = OfEdit s recursive (Flatten true false) files
OfTask s recursive tasks.RemoveDefault files = OfEdit s recursive (Flatten false true) files
OfTask s recursive tasks.RemoveBoth files = OfEdit s recursive (Flatten true true) files
OfTask s recursive tasks.List files = OfListing s.tree.files files

-- the new file of a path
abbrev pub file_at : CreatLine → PathOf → NewFile
file_at line path = record { path = path; kind = line.kind; user = name_meant line.user; mode = line.mode; umask = line.umask }

-- which parts of a line are at fault, and with which fault; no judge matters
abbrev pub IsAtFault : State → ToolLine → List ℕ → Part → LineFault → Type 0
IsAtFault s (lines.Load line) text = OfCommand (load.answered s line text)
IsAtFault s (lines.Getfacl line) text = OfListing s.tree.files line.files
IsAtFault s (lines.Setfacl line) text = OfSetfacl s line text
IsAtFault s (lines.Chacl line) text = OfTask s line.recursive line.task line.files
IsAtFault s (lines.Chmod line) text = OfPaths line.files (paths_from 1 line.files) (λ paths. done s (commands.Chmod paths line.mode line.recursive))
IsAtFault s (lines.Creat line) text = OfPaths (line.file ∷ []) (path_at 1 line.file) (λ path. done s (commands.Creat (file_at line path)))
IsAtFault s (lines.Rm line) text = OfPaths line.files (paths_from 1 line.files) (λ paths. done s (commands.Rm paths line.recursive))
IsAtFault s (lines.Gpasswd line) text = OfCommand (done s (commands.Gpasswd (name_meant line.user) (name_meant line.group) line.change))
IsAtFault s (lines.Usermod line) text = OfCommand (done s (commands.Usermod (name_meant line.user) (name_meant line.group)))
IsAtFault s (lines.Attr line) text = OfListing s.tree.files line.files
IsAtFault s (lines.Setattr line) text =
    OfTextAndFiles (setattr.list_of_digits line.attribute.digits) line.files
    (λ acl paths. done s (commands.Edit paths (setattr.put_of line.attribute.which acl) false))
IsAtFault s (lines.Can line) text = OfUserAndFiles s line.user (line.file ∷ [])
IsAtFault s (lines.Who line) text = OfListing s.tree.files (line.file ∷ [])
IsAtFault s (lines.May line) text = OfUser s.people line.user
IsAtFault s (lines.Below line) text = OfBelow s line.shown line.files
IsAtFault s (lines.Why line) text = OfUserAndFiles s line.user line.files
IsAtFault s lines.Index text = OfNothing
IsAtFault s (lines.Changes line) text = OfNothing
IsAtFault s (lines.Gains line) text = OfNothing
IsAtFault s (lines.Useradd line) text = OfCommand (done s (commands.Useradd (new_user line)))
IsAtFault s (lines.Userdel line) text = OfCommand (done s (commands.Userdel (name_meant line.user)))
