-- The text of a file's record (getfacl(1)).
use Rattle.std.specs.Prelude.{ℕ, ◌-◌, ◌/◌, max, List, [], ◌∷◌, ◌++◌, length, take, Bool, true, false, not, ◌&&◌, if◌then◌else◌, Option, Some, None, codes, slice_index_or}
use Rattle.std.specs.List.{flat_map}
use Rattle.std.specs.FinMap as maps
use Rattle.acl_entry.specs.declared.entry.Entry.{Entry}
use Rattle.acl_entry.specs.declared.entry.Key.TheVariants.{Mask}
use Rattle.acl_entry.specs.Keys.{is_class}
use Rattle.acl_entry.specs.Lists.{KeyMap, entries}
use Rattle.acl_entry.specs.Perms as perms
use Rattle.acl_entry.specs.Perms.{Perms}
use Rattle.acl_names.specs.Paths.{path_text}
use Rattle.acl_text.specs.Naming.{Naming}
use Rattle.acl_text.specs.declared.fault.Which.{Which}
use Rattle.acl_text.specs.declared.fault.Which.TheVariants.{Access, Default}
use Rattle.acl_text.specs.declared.entries.Form.TheVariants.{Long}
use Rattle.acl_text.specs.Writing.{id_text, entry_text}
use Rattle.acl_text.specs.declared.effective.Effective.{Effective}
use Rattle.acl_text.specs.declared.effective.Effective.TheVariants.{WhereMasked, Always, Never}
use Rattle.acl_text.specs.declared.record.DumpRecord.{DumpRecord}

-- ---- effective permissions

-- whether the effective permissions of an entry of the group class are written
abbrev pub is_shown : Effective → Perms → Perms → Bool
is_shown WhereMasked mask perm = not (perms.contains mask perm)
is_shown Always mask perm = true
is_shown Never mask perm = false

-- the tabs after an entry of this many bytes
abbrev pub tab_count : ℕ → ℕ
tab_count bytes = max 1 (4 - bytes / 8)

abbrev pub tabs : ℕ → List ℕ
tabs bytes = take (tab_count bytes) (9 ∷ 9 ∷ 9 ∷ 9 ∷ [])

-- what is written after an entry of this many bytes, by its list's mask
abbrev pub effective_text : Effective → Option Perms → Entry → ℕ → List ℕ
effective_text how None e bytes = []
effective_text how (Some mask) e bytes =
    if is_class e.key && is_shown how mask e.perm then tabs bytes ++ (codes "#effective:" ++ perms.text (perms.meet e.perm mask)) else []

-- ---- flags

abbrev pub mark : ℕ → Bool → ℕ
mark letter set = if set then letter else 45

-- setuid, setgid and sticky
abbrev pub marks : List Bool → List ℕ
marks flags = mark 115 (slice_index_or flags 0 false) ∷ mark 115 (slice_index_or flags 1 false) ∷ mark 116 (slice_index_or flags 2 false) ∷ []

abbrev pub flags_text : Option (List Bool) → List ℕ
flags_text None = []
flags_text (Some flags) = codes "# flags: " ++ (marks flags ++ 10 ∷ [])

-- ---- names

-- the name of a directory ends in `/`
abbrev pub slash_text : Bool → List ℕ
slash_text slash = if slash then codes "/" else []

abbrev pub file_text : List (List ℕ) → Bool → List ℕ
file_text path slash = codes "# file: " ++ (path_text path ++ (slash_text slash ++ 10 ∷ []))

-- default entries have a word in front
abbrev pub front : Which → List ℕ
front Access = []
front Default = codes "default:"

abbrev pub owner_text : (ℕ → Option (List ℕ)) → Option ℕ → List ℕ
owner_text user_name None = []
owner_text user_name (Some id) = codes "# owner: " ++ (id_text id (user_name id) ++ 10 ∷ [])

abbrev pub group_text : (ℕ → Option (List ℕ)) → Option ℕ → List ℕ
group_text group_name None = []
group_text group_name (Some id) = codes "# group: " ++ (id_text id (group_name id) ++ 10 ∷ [])

module _ (naming : Naming) where
  -- the header lines, each where it is present
  abbrev pub header_text : List (List ℕ) → Bool → Option ℕ → Option ℕ → Option (List Bool) → List ℕ
  header_text path slash owner group flags = file_text path slash ++ (owner_text naming.user_name owner ++ (group_text naming.group_name group ++ flags_text flags))

  -- an entry as it is written in a list of a record
  abbrev pub shown : Which → Entry → List ℕ
  shown which e = front which ++ entry_text naming Long e

  abbrev pub entry_line : Effective → Which → Option Perms → Entry → List ℕ
  entry_line how which mask e = shown which e ++ (effective_text how mask e (length (shown which e)) ++ 10 ∷ [])

  -- a line for each entry, in list order
  abbrev pub list_text : Effective → Which → KeyMap → List ℕ
  list_text how which acl = flat_map (entry_line how which (maps.get acl Mask)) (entries acl)

  abbrev pub default_text : Effective → Option KeyMap → List ℕ
  default_text how None = []
  default_text how (Some acl) = list_text how Default acl

  -- the headers, the lists, and an empty line
  abbrev pub record_text : DumpRecord → List ℕ
  record_text r =
      header_text r.path r.slash r.owner r.group r.flags
      ++ (list_text WhereMasked Access r.access ++ (default_text WhereMasked r.dacl ++ 10 ∷ []))
