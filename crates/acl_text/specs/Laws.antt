-- What is true of names, rows and entry texts. Each is proved as a law of src/laws.rt, whose comment has it in words.
use Rattle.std.specs.Prelude.{◌≡◌, ◌↔◌, ℕ, List, [], Ok, Err, ◌<◌, false, length}
use Rattle.acl_names.specs.Pieces.{pieces}
use Rattle.acl_text.specs.Naming.{Naming}
use Rattle.acl_text.specs.declared.fault.TextFault.{TextFault}
use Rattle.acl_text.specs.declared.entries.Sep.{Sep}
use Rattle.acl_text.specs.declared.entries.Want.{Want}
use Rattle.acl_text.specs.declared.entries.Rules.{Rules}
use Rattle.acl_text.specs.InTurn.{IsFirstFault}
use Rattle.acl_text.specs.declared.rows.PasswdRow.{PasswdRow}
use Rattle.acl_text.specs.declared.rows.GroupRow.{GroupRow}
use Rattle.acl_text.specs.Rows.{has_no_content, passwd_name, passwd_row, passwd_line, passwd_of, group_name, group_row, group_line, group_of}
use Rattle.acl_text.specs.CountedRows.{AreCounted}
use Rattle.acl_text.specs.Means.{Means, AreRead}
use Rattle.acl_text.specs.Entries.{rules_of, separator, content, entry_of, one_more, entries_of}
use Rattle.acl_text.specs.declared.entries.Spec.{Spec}
use Rattle.acl_text.specs.Blanks.{trimmed}
use Rattle.acl_text.specs.Lowest.{ReportsLowest, EntryHas, NextEntryHas, RowHas}

abbrev pub PasswdRowsAreFirstOfTheirNames : Type 0
PasswdRowsAreFirstOfTheirNames = (bytes : List ℕ) (rows : List PasswdRow) → (passwd_of bytes ≡ Ok rows) ↔ AreCounted passwd_name passwd_row bytes rows

abbrev pub GroupRowsAreFirstOfTheirNames : Type 0
GroupRowsAreFirstOfTheirNames = (bytes : List ℕ) (rows : List GroupRow) → (group_of bytes ≡ Ok rows) ↔ AreCounted group_name group_row bytes rows

abbrev pub EntryMeansWhatIsRead : Type 0
EntryMeansWhatIsRead = (naming : Naming) (rules : Rules) (at : ℕ) (entry : List ℕ) (spec : Spec) →
    (entry_of naming rules at entry ≡ Ok spec) ↔ Means naming rules at entry spec

abbrev pub EntriesAreReadInOrder : Type 0
EntriesAreReadInOrder = (naming : Naming) (sep : Sep) (want : Want) (bytes : List ℕ) (specs : List Spec) →
    (entries_of naming sep want bytes ≡ Ok specs) ↔ AreRead naming sep (rules_of want) bytes specs

abbrev pub PasswdFaultIsFirst : Type 0
PasswdFaultIsFirst = (bytes : List ℕ) (fault : TextFault) → (passwd_of bytes ≡ Err fault) ↔ IsFirstFault passwd_line 1 [] (pieces 10 bytes) fault

abbrev pub GroupFaultIsFirst : Type 0
GroupFaultIsFirst = (bytes : List ℕ) (fault : TextFault) → (group_of bytes ≡ Err fault) ↔ IsFirstFault group_line 1 [] (pieces 10 bytes) fault

abbrev pub EntriesFaultIsFirst : Type 0
EntriesFaultIsFirst = (naming : Naming) (sep : Sep) (want : Want) (bytes : List ℕ) (fault : TextFault) →
    (entries_of naming sep want bytes ≡ Err fault)
    ↔ IsFirstFault (one_more naming sep (rules_of want)) 1 [] (pieces (separator sep) bytes) fault

abbrev pub EntryFaultIsLowest : Type 0
EntryFaultIsLowest = (naming : Naming) (rules : Rules) (at : ℕ) (entry : List ℕ) →
    ReportsLowest (EntryHas naming rules entry) (entry_of naming rules at entry)

abbrev pub PieceFaultIsLowest : Type 0
PieceFaultIsLowest = (naming : Naming) (sep : Sep) (rules : Rules) (at : ℕ) (specs : List Spec) (piece : List ℕ) →
    0 < length (trimmed (content sep piece)) →
    ReportsLowest (NextEntryHas naming rules specs (content sep piece)) (one_more naming sep rules at specs piece)

abbrev pub PasswdLineFaultIsLowest : Type 0
PasswdLineFaultIsLowest = (at : ℕ) (rows : List PasswdRow) (line : List ℕ) → has_no_content line ≡ false →
    ReportsLowest (RowHas passwd_name passwd_row rows line) (passwd_line at rows line)

abbrev pub GroupLineFaultIsLowest : Type 0
GroupLineFaultIsLowest = (at : ℕ) (rows : List GroupRow) (line : List ℕ) → has_no_content line ≡ false →
    ReportsLowest (RowHas group_name group_row rows line) (group_line at rows line)
