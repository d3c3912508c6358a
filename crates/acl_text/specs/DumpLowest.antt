-- Which kinds of fault a line of a dump has, with no order among them: the lowest of them is reported.
use Rattle.std.specs.Prelude.{◌≡◌, ℕ, ◌<◌, ◌⊎◌, List, [], length, map, Bool, true, false, not, Option, Some, None}
use Rattle.std.specs.List.{Contains}
use Rattle.acl_names.specs.Paths.{path_of}
use Rattle.acl_text.specs.Naming.{Naming}
use Rattle.acl_text.specs.declared.fault.FaultKind.{FaultKind}
use Rattle.acl_text.specs.declared.fault.FaultKind.TheVariants.{UnknownUser, UnknownGroup, BadHeader, MissingHeader, BadPath, RepeatedFile}
use Rattle.acl_text.specs.Words.{word_id}
use Rattle.acl_text.specs.Lowest.{EntryHas}
use Rattle.acl_text.specs.declared.line.LineKind.{LineKind}
use Rattle.acl_text.specs.declared.line.LineKind.TheVariants.{Nothing, File, Owner, OwningGroup, Flags, Entry}
use Rattle.acl_text.specs.declared.draft.RecordDraft.{RecordDraft}
use Rattle.acl_text.specs.declared.record.DumpRecord.{DumpRecord}
use Rattle.acl_text.specs.Lines.{content_of}
use Rattle.acl_text.specs.Records.{Numbered, rules, flags_of, may_head}

-- ---- the value of a header

-- it is empty
pub record IsEmpty (value : List ℕ) (kind : FaultKind) : Type 0 where
  pub is : kind ≡ BadHeader
  pub empty : value ≡ []

-- it is a word that names nobody
pub record NamesNobody (look_up : List ℕ → Option ℕ) (unknown : FaultKind) (word : List ℕ) (kind : FaultKind) : Type 0 where
  pub is : kind ≡ unknown
  pub some : 0 < length word
  pub nobody : word_id look_up word ≡ None

-- it is not three flags
pub record AreNoFlags (value : List ℕ) (kind : FaultKind) : Type 0 where
  pub is : kind ≡ BadHeader
  pub no_flags : flags_of value ≡ None

-- ---- a `file:` line

module _ (records : List DumpRecord) (value : List ℕ) where
  -- its value is not a path
  pub record IsNoPath (kind : FaultKind) : Type 0 where
    pub is : kind ≡ BadPath
    pub no_path : path_of value ≡ None

  -- its value is the path of an earlier record
  pub record IsOfAnEarlier (kind : FaultKind) : Type 0 where
    pub is : kind ≡ RepeatedFile
    pub path : List (List ℕ)
    pub is_path : path_of value ≡ Some path
    pub earlier : Contains (map (λ r. r.path) records) path

  abbrev pub FileHas : FaultKind → Type 0
  FileHas kind = IsEmpty value kind ⊎ (IsNoPath kind ⊎ IsOfAnEarlier kind)

-- ---- any other line

-- a line that belongs to a record: a header, but for `file:`, or an entry
abbrev pub belongs : LineKind → Bool
belongs Nothing = false
belongs File = false
belongs Owner = true
belongs OwningGroup = true
belongs Flags = true
belongs Entry = true

-- a header that the record has already, or that follows one of its entries
abbrev pub is_late : LineKind → RecordDraft → Bool
is_late Nothing draft = false
is_late File draft = false
is_late Owner draft = not (may_head draft.owner draft)
is_late OwningGroup draft = not (may_head draft.group draft)
is_late Flags draft = not (may_head draft.flags draft)
is_late Entry draft = false

module _ (naming : Naming) where
  -- what a line has wherever it is
  abbrev pub HasInItself : LineKind → List ℕ → FaultKind → Type 0
  HasInItself Nothing value kind = ⊥
  HasInItself File value kind = ⊥
  HasInItself Owner value kind = IsEmpty value kind ⊎ NamesNobody naming.user_id UnknownUser value kind
  HasInItself OwningGroup value kind = IsEmpty value kind ⊎ NamesNobody naming.group_id UnknownGroup value kind
  HasInItself Flags value kind = AreNoFlags value kind
  HasInItself Entry value kind = EntryHas naming rules value kind

  module _ (draft : Option RecordDraft) (l : Numbered) where
    -- it belongs to a record, and no record is open
    pub record HasNoRecord (kind : FaultKind) : Type 0 where
      pub is : kind ≡ MissingHeader
      pub none : draft ≡ None
      pub lone : belongs (content_of l.1).0 ≡ true

    -- it is a header that comes late in its record
    pub record IsLate (kind : FaultKind) : Type 0 where
      pub is : kind ≡ BadHeader
      pub so_far : RecordDraft
      pub opened_draft : draft ≡ Some so_far
      pub late : is_late (content_of l.1).0 so_far ≡ true

    abbrev pub LineHas : FaultKind → Type 0
    LineHas kind = HasInItself (content_of l.1).0 (content_of l.1).1 kind ⊎ (HasNoRecord kind ⊎ IsLate kind)
