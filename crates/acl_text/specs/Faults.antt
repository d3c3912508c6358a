-- The first fault of a dump, by its lines.
use Rattle.std.specs.Prelude.{◌≡◌, ℕ, ◌⊎◌, List, [], ◌∷◌, ◌++◌, true, false, Option, None, Result, Ok, Err}
use Rattle.std.specs.List.{AllByRecursion}
use Rattle.acl_text.specs.Naming.{Naming}
use Rattle.acl_text.specs.declared.fault.TextFault.{TextFault}
use Rattle.acl_text.specs.declared.record.DumpUse.{DumpUse}
use Rattle.acl_text.specs.declared.record.DumpRecord.{DumpRecord}
use Rattle.acl_text.specs.declared.draft.RecordDraft.{RecordDraft}
use Rattle.acl_text.specs.Groups.{in_turn, grouped, by_groups}
use Rattle.acl_text.specs.Records.{Numbered, begins, line_in, open_record, close}

-- lines that begin no record
abbrev pub BeginNoRecord : List Numbered → Type 0
BeginNoRecord ls = AllByRecursion (λ l. begins l ≡ false) ls

-- a record ends with the dump, or where the next one begins
abbrev pub EndARecord : List Numbered → Type 0
EndARecord [] = Unit {0}
EndARecord (l ∷ ls) = begins l ≡ true

module _ (naming : Naming) where
  -- lines that begin no record, each added to the open one
  abbrev pub added : Option RecordDraft → List Numbered → Result (Option RecordDraft) TextFault
  added draft ls = in_turn (line_in naming) draft ls

  -- One of the lines after has the fault; those before it belong to the same record, or to no record, and are not faulty.
  pub record IsOfALine (draft : Option RecordDraft) (ls : List Numbered) (fault : TextFault) : Type 0 where
    pub before : List Numbered
    pub line : Numbered
    pub after : List Numbered
    pub parts : ls ≡ before ++ line ∷ after
    pub same_record : BeginNoRecord before
    pub begins_none : begins line ≡ false
    pub so_far : Option RecordDraft
    pub no_fault_before : added draft before ≡ Ok so_far
    pub faulty : line_in naming so_far line ≡ Err fault

  module _ (dump_use : DumpUse) where
    -- A record has the fault as a whole, at a place; all its lines are not faulty, and what comes after it
    -- is not looked at.
    pub record IsOfTheWhole (at : ℕ) (records : List DumpRecord) (draft : Option RecordDraft) (ls : List Numbered) (fault : TextFault) : Type 0 where
      pub place : fault.at ≡ at
      pub others : List Numbered
      pub after : List Numbered
      pub parts : ls ≡ others ++ after
      pub same_record : BeginNoRecord others
      pub ended : EndARecord after
      pub so_far : Option RecordDraft
      pub no_faulty_line : added draft others ≡ Ok so_far
      pub faulty : close dump_use records so_far ≡ Err fault

    -- the record that is open at a place has the fault, in one of the lines after, or there as a whole
    abbrev pub IsOfTheRecord : ℕ → List DumpRecord → Option RecordDraft → List Numbered → TextFault → Type 0
    IsOfTheRecord at records draft ls fault = IsOfALine draft ls fault ⊎ IsOfTheWhole at records draft ls fault

    -- a `file:` line is not faulty, and the record that it begins has the fault
    pub record IsInItsLines (records : List DumpRecord) (file : Numbered) (ls : List Numbered) (fault : TextFault) : Type 0 where
      pub draft : Option RecordDraft
      pub no_fault : open_record records file ≡ Ok draft
      pub following : IsOfTheRecord file.0 records draft ls fault

    -- the records of these lines, or the first fault
    abbrev pub records_in : List Numbered → Result (List DumpRecord) TextFault
    records_in ls = by_groups begins open_record (line_in naming) (close dump_use) [] None (grouped begins ls)

    -- A record has the fault, in its `file:` line or after it; the lines before it are a dump without a fault.
    pub record IsOfALaterRecord (ls : List Numbered) (fault : TextFault) : Type 0 where
      pub before : List Numbered
      pub file : Numbered
      pub following : List Numbered
      pub parts : ls ≡ before ++ file ∷ following
      pub begins_one : begins file ≡ true
      pub records : List DumpRecord
      pub no_fault_before : records_in before ≡ Ok records
      pub faulty : (open_record records file ≡ Err fault) ⊎ IsInItsLines records file following fault

    -- The first fault: of a line before the first record, or of the first faulty record.
    abbrev pub IsFirstFault : List Numbered → TextFault → Type 0
    IsFirstFault ls fault = IsOfALine None ls fault ⊎ IsOfALaterRecord ls fault
