-- Where the records of a dump are read again as they are written.
use Rattle.std.specs.Prelude.{◌≡◌, ℕ, ◌+◌, ◌<◌, List, [], ◌∷◌, ◌++◌, length, Bool, true, false, Option, Some, None, is_some, map}
use Rattle.std.specs.List.{list_all, list_any, flat_map}
use Rattle.acl_entry.specs.Ids.{nobody}
use Rattle.acl_entry.specs.Lists.{KeyMap, entries, IsValid, HasIds}
use Rattle.acl_names.specs.Paths.{is_component}
use Rattle.acl_text.specs.Naming.{Naming}
use Rattle.acl_text.specs.Writing.{IsNamed, AreNamed}
use Rattle.acl_text.specs.declared.record.DumpUse.{DumpUse}
use Rattle.acl_text.specs.declared.record.DumpUse.TheVariants.{Load, Restore}
use Rattle.acl_text.specs.declared.record.DumpRecord.{DumpRecord}
use Rattle.acl_text.specs.Records.{same_path}
use Rattle.acl_text.specs.DumpWriting.{record_text}

-- an owner or a group, if there is one, has an id, and its name is found again
pub record IsFound (look_up : List ℕ → Option ℕ) (name_of : ℕ → Option (List ℕ)) (id : ℕ) : Type 0 where
  pub small : id < nobody
  pub named : IsNamed look_up id (name_of id)

abbrev pub IsFoundIf : (List ℕ → Option ℕ) → (ℕ → Option (List ℕ)) → Option ℕ → Type 0
IsFoundIf look_up name_of None = Unit {0}
IsFoundIf look_up name_of (Some id) = IsFound look_up name_of id

-- there are three flags
abbrev pub AreFlags : Option (List Bool) → Type 0
AreFlags None = Unit {0}
AreFlags (Some flags) = length flags ≡ 3

-- what a use needs is present
abbrev pub HasHeaders : DumpUse → DumpRecord → Type 0
HasHeaders Load r = (is_some r.owner ≡ true) × (is_some r.group ≡ true)
HasHeaders Restore r = Unit {0}

module _ (naming : Naming) where
  -- a valid list, whose names are found again
  pub record IsList (acl : KeyMap) : Type 0 where
    pub valid : IsValid acl
    pub ids : HasIds (entries acl)
    pub named : AreNamed naming (entries acl)

  abbrev pub IsListIf : Option KeyMap → Type 0
  IsListIf None = Unit {0}
  IsListIf (Some acl) = IsList acl

  -- a record that is read again as it is written
  pub record IsReadable (dump_use : DumpUse) (r : DumpRecord) : Type 0 where
    pub path : list_all is_component r.path ≡ true
    pub headers : HasHeaders dump_use r
    pub owner : IsFoundIf naming.user_id naming.user_name r.owner
    pub group : IsFoundIf naming.group_id naming.group_name r.group
    pub flags : AreFlags r.flags
    pub access : IsList r.access
    pub dacl : IsListIf r.dacl

-- no path is among those before it
abbrev pub AreApart : List (List (List ℕ)) → List (List (List ℕ)) → Type 0
AreApart before [] = Unit {0}
AreApart before (p ∷ ps) = (list_any (same_path p) before ≡ false) × AreApart (before ++ p ∷ []) ps

abbrev pub paths : List DumpRecord → List (List (List ℕ))
paths rs = map (λ r. r.path) rs

-- a line for a header that is present
abbrev pub lines_if : {A : Type 0} → Option A → ℕ
lines_if None = 0
lines_if (Some x) = 1

abbrev pub default_count : Option KeyMap → ℕ
default_count None = 0
default_count (Some acl) = length (entries acl)

-- the lines of a record: its `file:` line and other headers, its entries, and the empty line
abbrev pub line_count : DumpRecord → ℕ
line_count r = 1 + (lines_if r.owner + (lines_if r.group + (lines_if r.flags + (length (entries r.access) + (default_count r.dacl + 1)))))

-- records that are one after another from a line on
abbrev pub placed : ℕ → List DumpRecord → List DumpRecord
placed at [] = []
placed at (r ∷ rs) = record r { at = at } ∷ placed (at + line_count r) rs

-- the texts of records, one after another
abbrev pub dump_text : Naming → List DumpRecord → List ℕ
dump_text naming rs = flat_map (record_text naming) rs
