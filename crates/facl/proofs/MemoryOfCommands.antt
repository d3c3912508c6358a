-- No command has as its fault that memory ran out.
use Rattle.std.proofs.Common.{◌≡◌, ℕ, Bool, true, false, if◌then◌else◌, List, [], ◌∷◌, length, Option, Some, None, option_map, Result, Ok, Err, refl}
use Rattle.std.specs.Prelude.{IfErr, nat_lt}
use Rattle.std.specs.FinMap.{find}
use Rattle.std.proofs.lemmas.Result.{IfErr-at_err}
use Rattle.acl_edit.specs.Nodes.{is_directory}
use Rattle.acl_edit.specs.declared.edit.Edit.{Edit}
use Rattle.acl_edit.specs.declared.edit.EditFault.{EditFault}
use Rattle.acl_edit.specs.declared.node.Node.{Node}
use Rattle.acl_names.specs.Below.{parent}
use Rattle.acl_names.specs.Paths.{path_cmp, PathOf}
use Rattle.acl_people.specs.KnownPeople.{KnownPeople, loaded}
use Rattle.acl_people.specs.declared.fault.LoadFault.TheVariants.{AlreadyLoaded}
use Rattle.acl_text.specs.Results.{unless, map_err}
use Rattle.acl_text.specs.Rows.{passwd_of, group_of}
use Rattle.acl_text.specs.declared.fault.TextFault.{TextFault}
use Rattle.acl_text.specs.declared.record.DumpRecord.{DumpRecord}
use Rattle.acl_text.specs.declared.rows.PasswdRow.{PasswdRow}
use Rattle.acl_tree.proofs.RefusedOperands.{chmod_refused}
use Rattle.acl_tree.proofs.RefusedPeople.{gpasswd_refused, usermod_refused, useradd_refused, userdel_refused}
use Rattle.acl_tree.proofs.RefusedRemovals.{rm_refused}
use Rattle.acl_tree.specs.Creat.{creat, creat_by, directory_at, exists, only_directory, row_of}
use Rattle.acl_tree.specs.EditCommand.{edit_one, edited_tree}
use Rattle.acl_tree.specs.Edits.{FileEdit, and_others, edit_all, edit_each, file_fault}
use Rattle.acl_tree.specs.Files.{Files, Recorded, max_files}
use Rattle.acl_tree.specs.Loads.{dump_records, load, with_people, with_records}
use Rattle.acl_tree.specs.Operands.{files_meant, first_missing}
use Rattle.acl_tree.specs.Refusals.{IsRefusedForFirst}
use Rattle.acl_tree.specs.Restoring.{paths_of, restore_one, restored_tree}
use Rattle.acl_tree.specs.State.{State}
use Rattle.acl_tree.specs.Step.{Applies, step}
use Rattle.acl_tree.specs.declared.command.Command.{Command}
use Rattle.acl_tree.specs.declared.command.Command.TheVariants as commands
use Rattle.acl_tree.specs.declared.command.NewFile.{NewFile}
use Rattle.acl_tree.specs.declared.command.Table.{Table}
use Rattle.acl_tree.specs.declared.command.Table.TheVariants.{Passwd, Group, Dump}
use Rattle.acl_tree.specs.declared.edit.FileFault.{FileFault}
use Rattle.acl_tree.specs.declared.edit.FileFault.TheVariants as of_files
use Rattle.acl_tree.specs.declared.fault.TreeFault.{TreeFault}
use Rattle.acl_tree.specs.declared.fault.TreeFault.TheVariants as trees
use Rattle.facl.proofs.Failing.{both, either, checked, seen}

-- it is not that memory ran out
abbrev pub IsOther : TreeFault → Type 0
IsOther trees.NoMemory = ⊥
IsOther fault = Unit {0}

-- ---- edits

abbrev IsOtherOfFile : FileFault → Type 0
IsOtherOfFile of_files.NoMemory = ⊥
IsOtherOfFile fault = Unit {0}

of_file : (fault : FileFault) → IsOtherOfFile fault → IsOther (file_fault fault)
of_file of_files.NoMemory h = h
of_file fault h = tt

each_edited : (edit : FileEdit) (es : Files) → IfErr (edit_each edit es) IsOtherOfFile
each_edited edit [] = tt
each_edited edit (e ∷ es) = by (edit e.0 e.1) (edit_each edit es) (each_edited edit es)
  where
    by : (r : Result Node EditFault) (others : Result Files FileFault) → IfErr others IsOtherOfFile → IfErr (and_others e.0 r others) IsOtherOfFile
    by (Err fault) others h = tt
    by (Ok n) (Err fault) h = h
    by (Ok n) (Ok es) h = tt

all_edited : (edit : FileEdit) (recursive : Bool) (paths : List PathOf) (t : Recorded) (missing : Option PathOf)
    → IfErr (unless (option_map trees.NoSuchFile missing) (map_err file_fault (edit_all edit recursive paths t))) IsOther
all_edited edit recursive paths t missing =
    checked IsOther (λ p. trees.NoSuchFile p) missing _ (λ p. tt)
    (seen IsOther file_fault (edit_all edit recursive paths t)
    (λ fault is. of_file fault (IfErr-at_err IsOtherOfFile is
    (both IsOtherOfFile (edit_each edit (files_meant recursive paths t.files)) _ (each_edited edit (files_meant recursive paths t.files)) (λ es. tt)))))

pub edit_has_memory : (recursive : Bool) (paths : List PathOf) (e : Edit) (t : Recorded) → IfErr (edited_tree recursive paths e t) IsOther
edit_has_memory recursive paths e t = all_edited (edit_one e recursive) recursive paths t (first_missing paths t.files)

pub restore_has_memory : (records : List DumpRecord) (t : Recorded) → IfErr (restored_tree records t) IsOther
restore_has_memory records t = all_edited (restore_one records) false (paths_of records) t (first_missing (paths_of records) t.files)

-- ---- new files

creat_has_memory : (new : NewFile) (known : KnownPeople) (t : Recorded) → IfErr (creat new known t) IsOther
creat_has_memory new known t = by (row_of known new.user)
  where
    in_directory : (p : PathOf) (o : Option Node) → IfErr (only_directory p o) IsOther
    in_directory p None = tt
    in_directory p (Some n) = either IsOther (is_directory n.kind) (Ok n) (Err (trees.NotDirectory p)) tt tt

    by : (o : Option PasswdRow) → IfErr (creat_by new t o) IsOther
    by None = tt
    by (Some row) =
        let above = parent new.path in
        either IsOther (exists new.path t.files) _ _ tt
        (both IsOther (directory_at above t.files) _ (in_directory above (find path_cmp above t.files)) (λ directory. either IsOther (nat_lt (length t.files) max_files) _ _ tt tt))

-- ---- loads

with_rows : {A : Type 0} (s : State) (again : Bool) (put : A → KnownPeople) (r : Result A TextFault)
    → IfErr (with_people s (if again then Err AlreadyLoaded else loaded put r)) IsOther
with_rows s true put r = tt
with_rows s false put (Ok rows) = tt
with_rows s false put (Err fault) = tt

with_files : (s : State) (r : Result (List DumpRecord) TextFault) → IfErr (with_records s r) IsOther
with_files s (Err fault) = tt
with_files s (Ok records) = either IsOther (nat_lt max_files (length records)) (Err trees.TooMany) _ tt tt

pub load_has_memory : (s : State) (which : Table) (bytes : List ℕ) → IfErr (load s which bytes) IsOther
load_has_memory s Passwd bytes = either IsOther s.tree.loaded (Err trees.AlreadyLoaded) _ tt (with_rows s s.people.passwd_loaded _ (passwd_of bytes))
load_has_memory s Group bytes = either IsOther s.tree.loaded (Err trees.AlreadyLoaded) _ tt (with_rows s s.people.group_loaded _ (group_of bytes))
load_has_memory s Dump bytes = either IsOther s.tree.loaded (Err trees.AlreadyLoaded) _ tt (with_files s (dump_records s.people bytes))

-- ---- all commands

refused : (s : State) (c : Command) → IsRefusedForFirst s c → IfErr (step s c) IsOther
refused s c law = by (step s c) refl
  where
    never : (c : Command) → Applies s c trees.NoMemory → ⊥
    never (commands.Load which bytes) h = h
    never c h = h

    by : (r : Result State TreeFault) → step s c ≡ r → IfErr r IsOther
    by (Ok new) is = tt
    by (Err trees.NoMemory) is = never c ((law.reported trees.NoMemory).0 is).applies
    by (Err fault) is = tt

pub step_has_memory : (s : State) (c : Command) → IfErr (step s c) IsOther
step_has_memory s (commands.Load which bytes) = load_has_memory s which bytes.now
step_has_memory s (commands.Chmod paths mode recursive) = refused s (commands.Chmod paths mode recursive) (chmod_refused s paths mode recursive)
step_has_memory s (commands.Edit paths e recursive) = both IsOther (edited_tree recursive paths e s.tree) _ (edit_has_memory recursive paths e s.tree) (λ tree. tt)
step_has_memory s (commands.Restore records) = both IsOther (restored_tree records s.tree) _ (restore_has_memory records s.tree) (λ tree. tt)
step_has_memory s (commands.Creat new) = both IsOther (creat new s.people s.tree) _ (creat_has_memory new s.people s.tree) (λ tree. tt)
step_has_memory s (commands.Rm paths recursive) = refused s (commands.Rm paths recursive) (rm_refused s recursive paths)
step_has_memory s (commands.Gpasswd user group change) = refused s (commands.Gpasswd user group change) (gpasswd_refused s user group change)
step_has_memory s (commands.Usermod user group) = refused s (commands.Usermod user group) (usermod_refused s user group)
step_has_memory s (commands.Useradd new) = refused s (commands.Useradd new) (useradd_refused s new)
step_has_memory s (commands.Userdel user) = refused s (commands.Userdel user) (userdel_refused s user)
