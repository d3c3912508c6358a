-- What is true of dumps. Each is proved as a law of src/dump_laws.rt, whose comment has it in words.
use Rattle.std.specs.Prelude.{◌≡◌, ◌↔◌, ℕ, List, [], Option, Ok, Err, true}
use Rattle.std.specs.List.{AllByRecursion}
use Rattle.acl_text.specs.declared.record.DumpUse.{DumpUse}
use Rattle.acl_text.specs.declared.record.DumpRecord.{DumpRecord}
use Rattle.acl_text.specs.Naming.{Naming}
use Rattle.acl_text.specs.declared.fault.TextFault.{TextFault}
use Rattle.acl_text.specs.Lowest.{ReportsLowest}
use Rattle.acl_text.specs.declared.draft.RecordDraft.{RecordDraft}
use Rattle.acl_text.specs.Records.{Numbered, begins, opened_draft, judged, lines_of, dump_of}
use Rattle.acl_text.specs.Faults.{IsFirstFault}
use Rattle.acl_text.specs.DumpLowest.{FileHas, LineHas}
use Rattle.acl_text.specs.Lines.{content_of}
use Rattle.acl_text.specs.RoundTrips.{IsReadable, AreApart, paths, placed, dump_text}

abbrev pub DumpFaultIsFirst : Type 0
DumpFaultIsFirst = (naming : Naming) (dump_use : DumpUse) (bytes : List ℕ) (fault : TextFault) →
    (dump_of naming dump_use bytes ≡ Err fault) ↔ IsFirstFault naming dump_use (lines_of bytes) fault

abbrev pub DumpFileFaultIsLowest : Type 0
DumpFileFaultIsLowest = (records : List DumpRecord) (line : Numbered) → begins line ≡ true →
    ReportsLowest (FileHas records (content_of line.1).1) (opened_draft records line.0 (content_of line.1).1)

abbrev pub DumpLineFaultIsLowest : Type 0
DumpLineFaultIsLowest = (naming : Naming) (draft : Option RecordDraft) (line : Numbered) →
    ReportsLowest (LineHas naming draft line) (judged naming draft line)

abbrev pub RecordsAreReadAgain : Type 0
RecordsAreReadAgain = (naming : Naming) (dump_use : DumpUse) (records : List DumpRecord) →
    AllByRecursion (IsReadable naming dump_use) records → AreApart [] (paths records) →
    dump_of naming dump_use (dump_text naming records) ≡ Ok (placed 1 records)
