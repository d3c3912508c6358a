-- The body of a record: its lines after the `file:` line. It says the same of each file. Only the clauses of inner functions name it.
use Rattle.std.specs.Prelude.{◌≡◌, ◌≤◌, ◌<◌, ◌+◌, ◌⊎◌, ℕ, List, [], ◌∷◌, ◌++◌, length, Bool, true, false, Option, Some, None, Result, Ok}
use Rattle.std.specs.List.{AllByRecursion, enumerate_from}
use Rattle.acl_names.specs.Pieces.{pieces}
use Rattle.acl_text.specs.Naming.{Naming}
use Rattle.acl_text.specs.declared.fault.TextFault.{TextFault}
use Rattle.acl_text.specs.InTurn.{at_place}
use Rattle.acl_text.specs.Results.{◌>>=◌}
use Rattle.acl_text.specs.declared.record.DumpUse.{DumpUse}
use Rattle.acl_text.specs.declared.record.DumpRecord.{DumpRecord}
use Rattle.acl_text.specs.declared.draft.RecordDraft.{RecordDraft}
use Rattle.acl_text.specs.Groups.{in_turn}
use Rattle.acl_text.specs.Lines.{content_of, begins_record}
use Rattle.acl_text.specs.declared.line.LineKind.{LineKind}
use Rattle.acl_text.specs.Records.{item_of, add, line_in, close}
use Rattle.acl_text.specs.Watched.{stream}

-- ---- bodies in a text

abbrev pub begins_one : List ℕ → Bool
begins_one line = begins_record (content_of line).0

-- lines none of which begins a record
abbrev pub BeginNone : List (List ℕ) → Type 0
BeginNone lines = AllByRecursion (λ l. begins_one l ≡ false) lines

-- `count` whole lines, none of which begins a record
pub record IsBody (bytes : List ℕ) (count : ℕ) : Type 0 where
  pub each : List (List ℕ)
  pub parts : pieces 10 bytes ≡ each ++ [] ∷ []
  pub none : BeginNone each
  pub counted : length each ≡ count
  pub few : count ≤ length bytes

-- the first line begins a record
pub record BeginsOne (text : List ℕ) : Type 0 where
  pub first : List ℕ
  pub others : List (List ℕ)
  pub parts : pieces 10 text ≡ first ∷ others
  pub begins : begins_one first ≡ true

-- a text in which nothing more belongs to the record before it
abbrev pub Ends : List ℕ → Type 0
Ends text = (text ≡ []) ⊎ BeginsOne text

-- a test says whether a text ends the record before it, or else that it has a first line, which begins no record
abbrev pub SaysEnds : Bool → List ℕ → Type 0
SaysEnds true text = Ends text
SaysEnds false text = (0 < length text) × ((first : List ℕ) (others : List (List ℕ)) → pieces 10 text ≡ first ∷ others → begins_one first ≡ false)

-- a text begins with a body, with which a record ends
pub record IsCut (text body : List ℕ) (count : ℕ) (after : List ℕ) : Type 0 where
  pub parts : text ≡ body ++ after
  pub lines : IsBody body count
  pub ends : Ends after

-- ---- what a body says

-- a record of which only the `file:` line was read
abbrev pub opened : ℕ → List (List ℕ) → Bool → RecordDraft
opened at path slash = record { at = at; path = path; slash = slash; owner = None; group = None; flags = None; access = []; dacl = [] }

-- a record as that of another file
abbrev pub moved : ℕ → List (List ℕ) → Bool → DumpRecord → DumpRecord
moved at path slash r = record { at = at; path = path; slash = slash; owner = r.owner; group = r.group; flags = r.flags; access = r.access; dacl = r.dacl }

module _ (naming : Naming) where
  -- a line of this content, added to the open record
  abbrev pub content_added : Option RecordDraft → ℕ → LineKind → List ℕ → Result (Option RecordDraft) TextFault
  content_added draft at kind value = at_place at (item_of naming at kind value >>= (λ item. add item draft)) (λ new. Ok new)

  -- the lines of a body, from a number on, each added to the open record
  abbrev pub added : Option RecordDraft → ℕ → List ℕ → Result (Option RecordDraft) TextFault
  added draft from body = in_turn (line_in naming) draft (enumerate_from from (pieces 10 body))

  module _ (dump_use : DumpUse) where
    -- the records, and that of the open record and a body
    abbrev pub closed : List DumpRecord → RecordDraft → ℕ → List ℕ → Result (List DumpRecord) TextFault
    closed records draft from body = added (Some draft) from body >>= (λ whole. close dump_use records whole)

    -- a body says of each file, wherever it is, what a record says of its own
    abbrev pub Says : List ℕ → DumpRecord → Type 0
    Says body r = (records : List DumpRecord) (at from : ℕ) (path : List (List ℕ)) (slash : Bool) → closed records (opened at path slash) from body ≡ Ok (records ++ moved at path slash r ∷ [])

    -- a dump from a line on, with a record open or none
    abbrev pub rest_if : List DumpRecord → Option RecordDraft → ℕ → List ℕ → Result (List DumpRecord) TextFault
    rest_if records draft at text = stream naming false dump_use records draft (enumerate_from at (pieces 10 text))

    abbrev pub rest_of : List DumpRecord → ℕ → List ℕ → Result (List DumpRecord) TextFault
    rest_of records at text = rest_if records None at text

    -- a text is read, with a record open, as its lines up to those after `count`, which leave records that are closed
    abbrev pub ReadsTo : List DumpRecord → RecordDraft → List ℕ → List DumpRecord → ℕ → List ℕ → Type 0
    ReadsTo records draft text more count after = (at : ℕ) → rest_if records (Some draft) at text ≡ rest_of more (at + count) after
