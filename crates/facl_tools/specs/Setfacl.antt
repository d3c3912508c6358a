-- What a line of setfacl(1) does.
use Rattle.std.specs.Prelude.{ℕ, List, Bool, false, not, ◌&&◌, ◌||◌, [], Option, Some, None, Result, Ok, option_map, if◌then◌else◌}
use Rattle.std.specs.Bool.{beq}
use Rattle.std.specs.List.{find, list_any}
use Rattle.acl_entry.specs.Keys.{same_key}
use Rattle.acl_text.specs.Entries.{entries_of}
use Rattle.acl_text.specs.declared.entries.Sep.{Sep}
use Rattle.acl_text.specs.declared.entries.Sep.TheVariants.{Comma, Line}
use Rattle.acl_text.specs.declared.entries.Spec.{Spec}
use Rattle.acl_text.specs.declared.entries.Want.{Want}
use Rattle.acl_text.specs.declared.entries.Want.TheVariants.{WithPerms, WithoutPerms}
use Rattle.acl_text.specs.Records.{dump_of}
use Rattle.acl_text.specs.Results.{◌>>=◌, map_err, unless}
use Rattle.acl_text.specs.declared.record.DumpRecord.{DumpRecord}
use Rattle.acl_text.specs.declared.record.DumpUse.TheVariants as uses
use Rattle.acl_edit.specs.declared.edit.Edit.{Edit as FileEdit}
use Rattle.acl_edit.specs.declared.edit.Edit.TheVariants as edits
use Rattle.acl_people.specs.KnownPeople.{KnownPeople, naming_of}
use Rattle.acl_names.specs.Paths.{PathOf}
use Rattle.acl_tree.specs.EditCommand.{edited_tree}
use Rattle.acl_tree.specs.Files.{Files, Recorded}
use Rattle.acl_tree.specs.Found.{FoundFile, files_found}
use Rattle.acl_tree.specs.Restoring.{paths_of, restored_tree}
use Rattle.acl_tree.specs.State.{State, with_tree}
use Rattle.acl_tree.specs.declared.fault.TreeFault.{TreeFault}
use Rattle.acl_tree.specs.declared.user_change.UserChange.TheVariants.{Unchanged}
use Rattle.facl_output.specs.Faults.{line_fault_of_text, line_fault_of_tree}
use Rattle.facl_output.specs.declared.fault.LineFault.{LineFault}
use Rattle.facl_output.specs.declared.fault.LineFault.TheVariants as faults
use Rattle.facl_output.specs.declared.fault.Source.TheVariants.{Entry, TextLine}
use Rattle.facl_output.specs.TestListing.{test_listing}
use Rattle.facl_tools.specs.Replies.{Reply, printed, replied}
use Rattle.facl_tools.specs.Operands.{paths_from}
use Rattle.facl_tools.specs.declared.setfacl.ChangeFlags.{ChangeFlags}
use Rattle.facl_tools.specs.declared.setfacl.ChangeLine.{ChangeLine}
use Rattle.facl_tools.specs.declared.setfacl.EntrySource.{EntrySource}
use Rattle.facl_tools.specs.declared.setfacl.EntrySource.TheVariants.{InText, InWord}
use Rattle.facl_tools.specs.declared.setfacl.SetfaclLine.{SetfaclLine}
use Rattle.facl_tools.specs.declared.setfacl.SetfaclLine.TheVariants as lines
use Rattle.facl_tools.specs.declared.setfacl_entries.ChangeEntries.{ChangeEntries}

-- ---- entry texts

-- the entries of a text
abbrev pub entries_in : KnownPeople → Want → Sep → List ℕ → Result (List Spec) LineFault
entries_in known want sep text = map_err (line_fault_of_text Entry) (entries_of (naming_of known) sep want text)

-- the entries of an option, if it is given: in a word they are separated by commas, in the text after the line each has
-- a line
abbrev pub entries_given : KnownPeople → Want → Option EntrySource → List ℕ → Result (List Spec) LineFault
entries_given known want None text = Ok []
entries_given known want (Some (InWord word)) text = entries_in known want Comma word
entries_given known want (Some InText) text = entries_in known want Line text

-- the entries of a line: the first fault is that of the removed ones, then of the modified ones, then of the set ones
abbrev pub entries_of_line : KnownPeople → ChangeLine → List ℕ → Result ChangeEntries LineFault
entries_of_line known line text = do
  removed ← entries_given known WithoutPerms line.removed text
  modified ← entries_given known WithPerms line.modified text
  set ← entries_given known WithPerms line.set text
  Ok (record { remove = removed; modify = modified; set = set })

-- two entries of one list with one key; `-d` drops default entries
abbrev pub is_same_entry : Bool → Spec → Spec → Bool
is_same_entry as_default a b = not (as_default && a.dflt) && (beq a.dflt b.dflt && same_key a.key b.key)

-- the first modified entry that is removed too
abbrev pub both_at : Bool → ChangeEntries → Option ℕ
both_at as_default entries =
    option_map (λ m. m.at) (find (λ m. list_any (λ r. is_same_entry as_default m r) entries.remove) entries.modify)

abbrev pub has_default : List Spec → Bool
has_default specs = list_any (λ s. s.dflt) specs

-- `-d` drops a default entry of one of the texts
abbrev pub drops : Bool → ChangeEntries → Bool
drops as_default entries = as_default && (has_default entries.remove || (has_default entries.modify || has_default entries.set))

-- ---- what is done

-- ids print as the names that these people have
abbrev pub named_test_listing : KnownPeople → List FoundFile → List ℕ
named_test_listing known files = test_listing (naming_of known) files

-- what `--test` prints of a next state, or its fault: the lists of the line's files; the state stays
abbrev pub tested : State → (Files → List FoundFile) → Result State TreeFault → Result Reply LineFault
tested s files_of made = map_err line_fault_of_tree made >>= λ new. Ok (printed s (named_test_listing new.people (files_of new.tree.files)))

-- a line makes this tree of the state's; with `--test` its files are printed, and the state stays
abbrev pub done_or_tested : (test : Bool) → State → (Files → List FoundFile) → Result Recorded TreeFault → Result Reply LineFault
done_or_tested test s files_of tree = if test then tested s files_of (tree >>= with_tree s) else replied Unchanged (tree >>= with_tree s)

-- the files of these paths are edited, in a recursion also all below them
abbrev pub edited_or_tested : (test : Bool) → State → Bool → List PathOf → FileEdit → Result Reply LineFault
edited_or_tested test s recursive paths edit = done_or_tested test s (files_found recursive paths) (edited_tree recursive paths edit s.tree)

-- the files of these records are restored
abbrev pub restored_or_tested : (test : Bool) → State → List DumpRecord → Result Reply LineFault
restored_or_tested test s records = done_or_tested test s (files_found false (paths_of records)) (restored_tree records s.tree)

-- ---- lists are changed

-- what a line does with the lists of a file: its options, and its entries
abbrev pub edit_of : ChangeFlags → ChangeEntries → FileEdit
edit_of flags entries =
    edits.Change flags.strip flags.drop_default flags.as_default flags.no_mask flags.remask entries.remove entries.set entries.modify

-- these entries are put into the files, with a warning where default ones are dropped
abbrev pub change_files : State → ChangeLine → ChangeEntries → Result Reply LineFault
change_files s line entries = do
  paths ← paths_from 1 line.files
  reply ← edited_or_tested line.test s line.recursive paths (edit_of line.flags entries)
  Ok (record reply { warns = drops line.flags.as_default entries })

abbrev pub change_line : State → ChangeLine → List ℕ → Result Reply LineFault
change_line s line text = do
  entries ← entries_of_line s.people line text
  unless (option_map faults.Both (both_at line.flags.as_default entries)) (change_files s line entries)

-- ---- a dump is restored

-- the records of a dump, of which none needs an owner or a group
unfoldable pub records_of : KnownPeople → List ℕ → Result (List DumpRecord) LineFault
records_of known text = map_err (line_fault_of_text TextLine) (dump_of (naming_of known) uses.Restore text)

abbrev pub restore_line : State → Bool → List ℕ → Result Reply LineFault
restore_line s test text = records_of s.people text >>= restored_or_tested test s

-- ---- the line

abbrev pub answered : State → SetfaclLine → List ℕ → Result Reply LineFault
answered s (lines.Change line) text = change_line s line text
answered s (lines.Restore test) text = restore_line s test text
