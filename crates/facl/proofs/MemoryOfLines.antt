-- No line has as its own fault that memory ran out.
use Rattle.std.proofs.Common.{ℕ, ◌+◌, Bool, true, false, if◌then◌else◌, List, [], ◌∷◌, length, map, Option, Some, None, option_map, Result, Ok, Err, subst}
use Rattle.std.specs.Prelude.{IfErr, nat_lt, ok_or}
use Rattle.std.specs.Option.{option_map_or}
use Rattle.std.specs.Str.{is_utf8}
use Rattle.std.proofs.lemmas.Result.{IfErr-at_err}
use Rattle.acl_edit.specs.declared.edit.Edit.{Edit}
use Rattle.acl_edit.specs.declared.edit.Edit.TheVariants.{Put, Flatten}
use Rattle.acl_entry.specs.Lists.{keys, map_of, missing_base, most_entries, or_else, repeated, unmasked}
use Rattle.acl_entry.specs.declared.entry.Entry.{Entry}
use Rattle.acl_entry.specs.declared.entry.Key.{Key}
use Rattle.acl_entry.specs.declared.entry.ListFault.TheVariants as list_faults
use Rattle.acl_names.specs.Paths.{path_of, PathOf}
use Rattle.acl_people.specs.KnownPeople.{naming_of, users_of}
use Rattle.acl_people.specs.NameTables.{place_of_word}
use Rattle.acl_rights.specs.Deciders.{Judging}
use Rattle.acl_rights.specs.Rows.{Verdict}
use Rattle.acl_rights.specs.Verdicts.{can_requests}
use Rattle.acl_rights.specs.declared.indexed.States.{States}
use Rattle.acl_text.specs.Attr.{attr_of, bad_attr}
use Rattle.acl_text.specs.Entries.{entries_of}
use Rattle.acl_text.specs.InTurn.{of_list}
use Rattle.acl_text.specs.Records.{dump_of}
use Rattle.acl_text.specs.Results.{◌>>=◌, map_err, unless}
use Rattle.acl_text.specs.declared.entries.Sep.TheVariants.{Comma, Line}
use Rattle.acl_text.specs.declared.entries.Want.{Want}
use Rattle.acl_text.specs.declared.entries.Want.TheVariants.{Plain, WithPerms, WithoutPerms}
use Rattle.acl_text.specs.declared.fault.FaultKind.{FaultKind}
use Rattle.acl_text.specs.declared.fault.FaultKind.TheVariants as kinds
use Rattle.acl_text.specs.declared.fault.TextFault.{TextFault}
use Rattle.acl_text.specs.declared.fault.Which.{Which}
use Rattle.acl_text.specs.declared.fault.Which.TheVariants.{Access, Default}
use Rattle.acl_text.specs.declared.record.DumpUse.TheVariants.{Restore}
use Rattle.acl_tree.specs.EditCommand.{edited_tree}
use Rattle.acl_tree.specs.Files.{Files, Recorded}
use Rattle.acl_tree.specs.Found.{FoundFile, files_found}
use Rattle.acl_tree.specs.Loads.{load, load_moves}
use Rattle.acl_tree.specs.Operands.{first_missing}
use Rattle.acl_tree.specs.Restoring.{paths_of, restored_tree}
use Rattle.acl_tree.specs.State.{State}
use Rattle.acl_tree.specs.Step.{step, users_move}
use Rattle.acl_tree.specs.declared.command.Command.{Command}
use Rattle.acl_tree.specs.declared.command.Command.TheVariants as commands
use Rattle.acl_tree.specs.declared.fault.TreeFault.{TreeFault}
use Rattle.acl_tree.specs.declared.fault.TreeFault.TheVariants as trees
use Rattle.acl_tree.specs.declared.user_change.UserChange.{UserChange}
use Rattle.facl_answers.specs.Answers.{who_text}
use Rattle.facl_output.specs.Faults.{line_fault_of_split, line_fault_of_text, line_fault_of_tree, unless_memory}
use Rattle.facl_output.specs.declared.fault.LineFault.{LineFault}
use Rattle.facl_output.specs.declared.fault.LineFault.TheVariants as faults
use Rattle.facl_output.specs.declared.fault.Source.{Source}
use Rattle.facl_output.specs.declared.fault.Source.TheVariants.{AttributeEntry, DefaultEntry, Entry as InEntry, TextLine}
use Rattle.facl_script.specs.Forms.{Text}
use Rattle.facl_script.specs.Units.{UnitText, none}
use Rattle.facl_script.specs.Words.{has_no_words, line_words, words_of}
use Rattle.facl_script.specs.declared.words.SplitFault.TheVariants.{OpenQuote, NotUtf8}
use Rattle.facl_tools.specs.Chacl.{task_done}
use Rattle.facl_tools.specs.Creat.{new_file}
use Rattle.facl_tools.specs.Edits as edits
use Rattle.facl_tools.specs.Lists.{entry_of, list_from, list_of_text, specs_of}
use Rattle.facl_tools.specs.Operands.{bad_operand, name_meant, not_recorded, path_at, paths_from, user_at}
use Rattle.facl_tools.specs.Replies.{done, replied}
use Rattle.facl_tools.specs.Setattr as setattr
use Rattle.facl_tools.specs.Setfacl.{both_at, change_files, change_line, done_or_tested, edit_of, edited_or_tested, entries_given, entries_of_line, records_of, restore_line}
use Rattle.facl_tools.specs.Useradd.{new_user}
use Rattle.facl_tools.specs.declared.chacl.Task.{Task}
use Rattle.facl_tools.specs.declared.chacl.Task.TheVariants as tasks
use Rattle.facl_tools.specs.declared.setfacl.ChangeLine.{ChangeLine}
use Rattle.facl_tools.specs.declared.setfacl.EntrySource.{EntrySource}
use Rattle.facl_tools.specs.declared.setfacl.EntrySource.TheVariants.{InText, InWord}
use Rattle.facl_tools.specs.declared.setfacl.SetfaclLine.TheVariants as setfacl_lines
use Rattle.hex.specs.Hex.{decode_of}
use Rattle.facl.proofs.Failing.{both, found, there, checked, seen}
use Rattle.facl.proofs.MemoryOfCommands as of_commands
use Rattle.facl.proofs.MemoryOfCommands.{edit_has_memory, restore_has_memory, load_has_memory, step_has_memory}
use Rattle.facl.proofs.MemoryOfTexts as of_texts
use Rattle.facl.proofs.MemoryOfTexts.{entries_have_memory, dump_has_memory, attr_has_memory}
use Rattle.facl.proofs.ToolLines.{tool_line_is}
use Rattle.facl.specs.Below.{folders_at, listed_at, place_of, shown_answered}
use Rattle.facl.specs.Can.{can_of}
use Rattle.facl.specs.Laws.{NoMemoryIsNoFault}
use Rattle.facl.specs.LineParts.{line_read, outcome}
use Rattle.facl.specs.May.{may_text_of}
use Rattle.facl.specs.ToolLines.{answered}
use Rattle.facl.specs.Tools.{tool_named}
use Rattle.facl.specs.Units.{reply, text_of, words_of_line}
use Rattle.facl.specs.Who.{who_of}
use Rattle.facl.specs.Why.{person_named, why_of}
use Rattle.facl.specs.declared.tools.below.BelowLine.{BelowLine}
use Rattle.facl.specs.declared.tools.below.Shown.{Shown}
use Rattle.facl.specs.declared.tools.below.Shown.TheVariants.{Counts, Folders, Listed}
use Rattle.facl.specs.declared.tools.ToolLine.{ToolLine}
use Rattle.facl.specs.declared.tools.ToolLine.TheVariants as lines

-- it is not that memory ran out
abbrev IsOther : LineFault → Type 0
IsOther faults.NoMemory = ⊥
IsOther fault = Unit {0}

-- ---- texts, and what is made of the state

of_text : (kind : FaultKind) (fault : LineFault) → IsOther fault → of_texts.IsOther kind → IsOther (unless_memory kind fault)
of_text kinds.NoMemory fault h other = other
of_text kind fault h other = h

of_tree : (fault : TreeFault) → of_commands.IsOther fault → IsOther (line_fault_of_tree fault)
of_tree trees.NoMemory h = h
of_tree fault h = tt

read : {A : Type 0} (source : Source) (r : Result A TextFault) → IfErr r of_texts.IsOtherAt → IfErr (map_err (line_fault_of_text source) r) IsOther
read source r h = seen IsOther (line_fault_of_text source) r (λ fault is. of_text fault.kind (faults.Text source fault) tt (IfErr-at_err of_texts.IsOtherAt is h))

made : (moved : UserChange) (r : Result State TreeFault) → IfErr r of_commands.IsOther → IfErr (replied moved r) IsOther
made moved r h = both IsOther (map_err line_fault_of_tree r) _ (seen IsOther line_fault_of_tree r (λ fault is. of_tree fault (IfErr-at_err of_commands.IsOther is h))) (λ s. tt)

is_done : (s : State) (c : Command) → IfErr (done s c) IsOther
is_done s c = made (users_move s c) (step s c) (step_has_memory s c)

tested : (test : Bool) (s : State) (files_of : Files → List FoundFile) (r : Result Recorded TreeFault) → IfErr r of_commands.IsOther → IfErr (done_or_tested test s files_of r) IsOther
tested true s files_of (Ok t) h = tt
tested true s files_of (Err fault) h = of_tree fault h
tested false s files_of (Ok t) h = tt
tested false s files_of (Err fault) h = of_tree fault h

-- ---- operands

paths_read : (at : ℕ) (words : List Text) → IfErr (paths_from at words) IsOther
paths_read at [] = tt
paths_read at (word ∷ words) =
    there IsOther (path_of word) (bad_operand at) _ tt (λ path. both IsOther (paths_from (at + 1) words) _ (paths_read (at + 1) words) (λ paths. tt))

with_paths : {A : Type 0} (words : List Text) (next : List PathOf → Result A LineFault) → ((paths : List PathOf) → IfErr (next paths) IsOther) → IfErr (paths_from 1 words >>= next) IsOther
with_paths words next each = both IsOther (paths_from 1 words) next (paths_read 1 words) each

recorded : {A : Type 0} (paths : List PathOf) (files : Files) (a : A) → IfErr (unless (not_recorded paths files) (Ok a)) IsOther
recorded paths files a = checked IsOther (λ path. faults.Tree (trees.NoSuchFile path)) (first_missing paths files) (Ok a) (λ path. tt) tt

-- ---- setfacl, chacl and setattr

module _ (s : State) where
  given : (want : Want) (source : Option EntrySource) (text : List ℕ) → IfErr (entries_given s.people want source text) IsOther
  given want None text = tt
  given want (Some (InWord word)) text = read InEntry (entries_of (naming_of s.people) Comma want word) (entries_have_memory (naming_of s.people) Comma want word)
  given want (Some InText) text = read InEntry (entries_of (naming_of s.people) Line want text) (entries_have_memory (naming_of s.people) Line want text)

  changed : (line : ChangeLine) (text : List ℕ) → IfErr (change_line s line text) IsOther
  changed line text =
      both IsOther (entries_of_line s.people line text) _
      (both IsOther (entries_given s.people WithoutPerms line.removed text) _ (given WithoutPerms line.removed text)
      (λ removed. both IsOther (entries_given s.people WithPerms line.modified text) _ (given WithPerms line.modified text)
      (λ modified. both IsOther (entries_given s.people WithPerms line.set text) _ (given WithPerms line.set text) (λ set. tt))))
      (λ entries. checked IsOther (λ at. faults.Both at) (both_at line.flags.as_default entries) (change_files s line entries) (λ at. tt)
      (with_paths line.files _
      (λ paths. both IsOther (edited_or_tested line.test s line.recursive paths (edit_of line.flags entries)) _
      (tested line.test s (files_found line.recursive paths) (edited_tree line.recursive paths (edit_of line.flags entries) s.tree)
      (edit_has_memory line.recursive paths (edit_of line.flags entries) s.tree))
      (λ reply. tt))))

  restored : (test : Bool) (text : List ℕ) → IfErr (restore_line s test text) IsOther
  unfolding records_of
  restored test text =
      both IsOther (records_of s.people text) _ (read TextLine (dump_of (naming_of s.people) Restore text) (dump_has_memory Restore (naming_of s.people) text))
      (λ records. tested test s (files_found false (paths_of records)) (restored_tree records s.tree) (restore_has_memory records s.tree))

  edited : (recursive : Bool) (edit : Edit) (files : List Text) → IfErr (edits.edited s recursive edit files) IsOther
  edited recursive edit files = with_paths files _ (λ paths. is_done s (commands.Edit paths edit recursive))

  of_entries : (source : Source) (which : Which) (es : List Entry) → IfErr (list_from source which es) IsOther
  of_entries source which es = by (nat_lt most_entries (length (keys es))) (repeated (keys es)) (missing_base (keys es)) (unmasked (keys es))
    where
      by : (many : Bool) (again : Option ℕ) (base : Option Key) (mask : Option ℕ)
          → IfErr
          (option_map_or (λ f. Err (line_fault_of_text source (record { kind = of_list which f; at = 0 })))
          (if many then Some list_faults.TooLong
          else or_else (option_map list_faults.Repeated again) (or_else (option_map list_faults.MissingBase base) (option_map list_faults.MissingMask mask)))
          (Ok (map_of es)))
          IsOther
      by true again base mask = tt
      by false (Some at) base mask = tt
      by false None (Some key) mask = tt
      by false None None (Some at) = tt
      by false None None None = tt

  listed : (source : Source) (which : Which) (text : Text) → IfErr (list_of_text s.people source which text) IsOther
  unfolding list_of_text
  listed source which text =
      both IsOther (specs_of s.people source text) _
      (read source (entries_of (naming_of s.people) Comma Plain text) (entries_have_memory (naming_of s.people) Comma Plain text))
      (λ specs. of_entries source which (map entry_of specs))

  has_task : (recursive : Bool) (t : Task) (files : List Text) → IfErr (task_done s recursive t files) IsOther
  has_task recursive (tasks.PutAccess text) files =
      both IsOther (list_of_text s.people InEntry Access text) _ (listed InEntry Access text) (λ access. edited recursive (Put (Some access) None) files)
  has_task recursive (tasks.PutDefault text) files =
      both IsOther (list_of_text s.people DefaultEntry Default text) _ (listed DefaultEntry Default text) (λ dacl. edited recursive (Put None (Some dacl)) files)
  has_task recursive (tasks.PutBoth text default_text) files =
      both IsOther (list_of_text s.people InEntry Access text) _ (listed InEntry Access text)
      (λ access. both IsOther (list_of_text s.people DefaultEntry Default default_text) _ (listed DefaultEntry Default default_text)
      (λ dacl. edited recursive (Put (Some access) (Some dacl)) files))
  has_task recursive tasks.RemoveAccess files = edited recursive (Flatten true false) files
  has_task recursive tasks.RemoveDefault files = edited recursive (Flatten false true) files
  has_task recursive tasks.RemoveBoth files = edited recursive (Flatten true true) files
  has_task recursive tasks.List files = with_paths files _ (λ paths. recorded paths s.tree.files _)

of_digits : (digits : Text) → IfErr (setattr.list_of_digits digits) IsOther
of_digits digits =
    both IsOther (setattr.bytes_of digits) _ (seen IsOther (λ e. faults.Text AttributeEntry (bad_attr 0)) (decode_of digits) (λ e is. tt))
    (λ bytes. read AttributeEntry (attr_of bytes) (attr_has_memory bytes))

shows : (verdict : Verdict) (s : State) (line : BelowLine) (shown : Shown) → IfErr (shown_answered verdict s line shown) IsOther
shows verdict s line Counts = with_paths line.files _ (λ paths. recorded paths s.tree.files _)
shows verdict s line (Listed user most) =
    both IsOther (paths_from 1 line.files >>= λ paths. user_at s.people (name_meant user) >>= listed_at verdict s line most paths) _
    (with_paths line.files _
    (λ paths. there IsOther (place_of_word (name_meant user) (users_of s.people)) (faults.Tree (trees.NoSuchUser (name_meant user))) _ tt (λ place. recorded paths s.tree.files _)))
    (λ out. tt)
shows verdict s line (Folders user depth) =
    both IsOther (paths_from 1 line.files >>= λ paths. place_of s.people user >>= folders_at verdict s line depth paths) _
    (with_paths line.files _ (λ paths. both IsOther (place_of s.people user) (folders_at verdict s line depth paths) (place user) (λ at. recorded paths s.tree.files _)))
    (λ out. tt)
  where
    place : (user : Option Text) → IfErr (place_of s.people user) IsOther
    place None = tt
    place (Some word) = there IsOther (place_of_word (name_meant word) (users_of s.people)) (faults.Tree (trees.NoSuchUser (name_meant word))) _ tt (λ at. tt)

-- ---- what a line does

does : (judge : Judging) (loaded s : State) (line : ToolLine) (text : List ℕ) → IfErr (answered judge loaded s line text) IsOther
unfolding answered
does judge loaded s (lines.Load line) text = made (load_moves line.table) (load s line.table text) (load_has_memory s line.table text)
does judge loaded s (lines.Getfacl line) text = with_paths line.files _ (λ paths. recorded paths s.tree.files _)
does judge loaded s (lines.Setfacl (setfacl_lines.Change line)) text = changed s line text
does judge loaded s (lines.Setfacl (setfacl_lines.Restore test)) text = restored s test text
does judge loaded s (lines.Chacl line) text = has_task s line.recursive line.task line.files
does judge loaded s (lines.Chmod line) text = with_paths line.files _ (λ paths. is_done s (commands.Chmod paths line.mode line.recursive))
does judge loaded s (lines.Creat line) text =
    both IsOther (new_file line) _ (there IsOther (path_of line.file) (bad_operand 1) _ tt (λ path. tt)) (λ new. is_done s (commands.Creat new))
does judge loaded s (lines.Rm line) text = with_paths line.files _ (λ paths. is_done s (commands.Rm paths line.recursive))
does judge loaded s (lines.Gpasswd line) text = is_done s (commands.Gpasswd (name_meant line.user) (name_meant line.group) line.change)
does judge loaded s (lines.Usermod line) text = is_done s (commands.Usermod (name_meant line.user) (name_meant line.group))
does judge loaded s (lines.Attr line) text = with_paths line.files _ (λ paths. recorded paths s.tree.files _)
does judge loaded s (lines.Setattr line) text =
    both IsOther (setattr.list_of_digits line.attribute.digits) _ (of_digits line.attribute.digits) (λ acl. edited s false (setattr.put_of line.attribute.which acl) line.files)
does judge loaded s (lines.Can line) text =
    both IsOther (path_at 1 line.file >>= can_of judge.verdict line.reach s line.user) _
    (there IsOther (path_of line.file) (bad_operand 1) _ tt
    (λ path. there IsOther (place_of_word (name_meant line.user) (users_of s.people)) (faults.Tree (trees.NoSuchUser (name_meant line.user))) _ tt
    (λ user. there IsOther (can_requests judge.verdict line.reach s user path) (faults.Tree (trees.NoSuchFile path)) _ tt (λ granted. tt))))
    (λ out. tt)
does judge loaded s (lines.Who line) text =
    both IsOther (who_of judge.verdict line.reach s line.file line.request) _
    (there IsOther (path_of line.file) (bad_operand 1) _ tt (λ path. found IsOther (who_text judge.verdict line.reach s line.request path) (faults.Tree (trees.NoSuchFile path)) tt))
    (λ out. tt)
does judge loaded s (lines.May line) text =
    there IsOther (may_text_of judge.verdict line.reach s line.request (name_meant line.user)) (faults.Tree (trees.NoSuchUser (name_meant line.user))) _ tt (λ out. tt)
does judge loaded s (lines.Below line) text = shows judge.verdict s line line.shown
does judge loaded s (lines.Why line) text =
    both IsOther (paths_from 1 line.files >>= why_of judge.decider s line.reach line.user) _
    (with_paths line.files _
    (λ paths. there IsOther (person_named s.people (name_meant line.user)) (faults.Tree (trees.NoSuchUser (name_meant line.user))) _ tt
    (λ u. recorded paths s.tree.files _)))
    (λ out. tt)
does judge loaded s lines.Index text = tt
does judge loaded s (lines.Changes line) text = tt
does judge loaded s (lines.Gains line) text = tt
does judge loaded s (lines.Useradd line) text = is_done s (commands.Useradd (new_user line))
does judge loaded s (lines.Userdel line) text = is_done s (commands.Userdel (name_meant line.user))

-- ---- the words of a line

words_read : (line : List ℕ) → IfErr (map_err line_fault_of_split (line_words line)) IsOther
words_read line = by (has_no_words line) (is_utf8 line) (words_of line)
  where
    by : (silent utf8 : Bool) (o : Option (List Text)) → IfErr (map_err line_fault_of_split (if silent then Ok [] else if utf8 then ok_or o OpenQuote else Err NotUtf8)) IsOther
    by true utf8 o = tt
    by false false o = tt
    by false true None = tt
    by false true (Some words) = tt

text_read : (text : UnitText) → IfErr (text_of text) IsOther
text_read none = tt
text_read text = tt

replies : (judge : Judging) (w : States) (text : UnitText) (words : List Text) → IfErr (reply judge w text words) IsOther
replies judge w text [] = tt
replies judge w text (name ∷ words) =
    there IsOther (tool_named name) faults.UnknownTool _ tt
    (λ tool. both IsOther (text_of text) _ (text_read text)
    (λ content. subst (λ r. IfErr r IsOther) (tool_line_is judge w.loaded w.now tool words content)
    (there IsOther (line_read tool words) faults.Usage _ tt (λ line. does judge w.loaded w.now line content))))

pub no_memory_is_no_fault : NoMemoryIsNoFault
no_memory_is_no_fault judge w u = λ is. subst (λ r. IfErr r IsOther) is of_outcome
  where
    of_outcome : IfErr (outcome judge w u) IsOther
    of_outcome =
        both IsOther (words_of_line u.line) _ (there IsOther u.line faults.LineTooLong _ tt words_read) (λ words. replies judge w u.text words)
