-- The lowest of the kinds of fault that a piece has, in whatever order they are searched.
use Rattle.std.specs.Prelude.{◌≡◌, ℕ, ◌≤◌, ◌⊎◌, List, length, Option, Some, None, Result, Ok, Err, Bool, false}
use Rattle.acl_entry.specs.declared.entry.Key.{Key}
use Rattle.acl_names.specs.Pieces.{pieces}
use Rattle.acl_text.specs.Naming.{Naming}
use Rattle.acl_text.specs.declared.fault.FaultKind.{FaultKind}
use Rattle.acl_text.specs.declared.fault.FaultKind.TheVariants as kinds
use Rattle.acl_text.specs.declared.entries.Rules.{Rules}
use Rattle.acl_text.specs.declared.entries.Spec.{Spec}
use Rattle.acl_text.specs.Fields.{EntryRow, default_of, entry_fields}
use Rattle.acl_text.specs.Entries.{tagged, wanted_perms, key_of, allowed_key, most_text_entries}
use Rattle.acl_text.specs.Rows.{is_repeated, most_rows}

-- the kinds in their order
abbrev pub number : FaultKind → ℕ
number kinds.BadTag = 1
number kinds.MissingPerms = 2
number kinds.UnwantedPerms = 3
number kinds.BadPerms = 4
number kinds.UnknownUser = 5
number kinds.UnknownGroup = 6
number kinds.BaseEntry = 7
number kinds.BadHeader = 8
number kinds.MissingHeader = 9
number kinds.BadPath = 10
number kinds.RepeatedFile = 11
number kinds.BadRow = 12
number kinds.BadAttr = 13
number (kinds.List which fault) = 14
number kinds.TooMany = 15
number kinds.NoMemory = 16

-- the piece has this kind of fault, and each other that it has is as high or higher
pub record IsLowest (has : FaultKind → Type 0) (kind : FaultKind) : Type 0 where
  pub applies : has kind
  pub least : (other : FaultKind) → has other → number kind ≤ number other

-- a judgement returns the lowest kind of fault that a piece has, and gives a value only where it has none
pub record ReportsLowest {A : Type 0} (has : FaultKind → Type 0) (judgement : Result A FaultKind) : Type 0 where
  pub no_fault : (value : A) → judgement ≡ Ok value → (kind : FaultKind) → has kind → ⊥
  pub lowest : (kind : FaultKind) → judgement ≡ Err kind → IsLowest has kind

-- ---- what an entry may have, by the rules of its use

module _ (naming : Naming) (rules : Rules) (fields : Bool × List (List ℕ)) where
  -- its fields are not those of an entry
  pub record HasBadTag (kind : FaultKind) : Type 0 where
    pub is : kind ≡ kinds.BadTag
    pub no_row : tagged rules fields ≡ None

  -- its permissions field is missing, not wanted or bad
  pub record HasBadPerms (kind : FaultKind) : Type 0 where
    pub row : EntryRow
    pub is_row : tagged rules fields ≡ Some row
    pub bad : wanted_perms rules row.perms ≡ Err kind

  -- nobody has its user or group word
  pub record HasUnknownWord (kind : FaultKind) : Type 0 where
    pub row : EntryRow
    pub is_row : tagged rules fields ≡ Some row
    pub unknown : key_of naming row.tag row.word ≡ Err kind

  -- it is a base entry, which the use refuses
  pub record HasBaseKey (kind : FaultKind) : Type 0 where
    pub row : EntryRow
    pub key : Key
    pub is_row : tagged rules fields ≡ Some row
    pub is_key : key_of naming row.tag row.word ≡ Ok key
    pub base : allowed_key rules key ≡ Err kind

  abbrev pub FieldsHave : FaultKind → Type 0
  FieldsHave kind = HasBadTag kind ⊎ (HasBadPerms kind ⊎ (HasUnknownWord kind ⊎ HasBaseKey kind))

-- what an entry has in itself, wherever it is
abbrev pub EntryHas : Naming → Rules → List ℕ → FaultKind → Type 0
EntryHas naming rules entry = FieldsHave naming rules (default_of (entry_fields entry))

-- there are as many entries already as a text may have
pub record HasNoRoom (specs : List Spec) (kind : FaultKind) : Type 0 where
  pub is : kind ≡ kinds.TooMany
  pub full : most_text_entries ≤ length specs

-- what the next entry of a text has
abbrev pub NextEntryHas : Naming → Rules → List Spec → List ℕ → FaultKind → Type 0
NextEntryHas naming rules specs entry kind = EntryHas naming rules entry kind ⊎ HasNoRoom specs kind

-- ---- what a row of passwd(5) or group(5) may have

module _ {R : Type 0} (name_of : R → List ℕ) (row_of : List (List ℕ) → Option R) (rows : List R) (line : List ℕ) where
  -- its fields are not those of a row
  pub record HasBadRow (kind : FaultKind) : Type 0 where
    pub is : kind ≡ kinds.BadRow
    pub no_row : row_of (pieces 58 line) ≡ None

  -- its name is new, and there are as many counted rows already as there may be
  pub record HasNoPlace (kind : FaultKind) : Type 0 where
    pub is : kind ≡ kinds.TooMany
    pub row : R
    pub is_row : row_of (pieces 58 line) ≡ Some row
    pub new : is_repeated name_of rows (name_of row) ≡ false
    pub full : most_rows ≤ length rows

  abbrev pub RowHas : FaultKind → Type 0
  RowHas kind = HasBadRow kind ⊎ HasNoPlace kind
