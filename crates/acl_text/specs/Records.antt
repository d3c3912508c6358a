-- The records of a dump (getfacl(1), setfacl(1) --restore).
use Rattle.std.specs.Prelude.{ℕ, List, [], ◌∷◌, ◌++◌, length, Bool, true, false, not, ◌&&◌, ◌==◌, if◌then◌else◌, Option, Some, None, is_some, Result, Ok, Err, nat_eq, codes, ok_or}
use Rattle.std.specs.List.{list_any, enumerate_from, ends_with}
use Rattle.std.specs.Ordering.{eq_by_cmp}
use Rattle.acl_entry.specs.declared.entry.Entry as entries
use Rattle.acl_entry.specs.declared.entry.ListFault.{ListFault}
use Rattle.acl_entry.specs.Lists.{KeyMap, map_of, fault}
use Rattle.acl_entry.specs.Perms.{Perms, none}
use Rattle.acl_names.specs.Pieces.{pieces}
use Rattle.acl_names.specs.Paths.{path_of, path_cmp}
use Rattle.acl_text.specs.Naming.{Naming}
use Rattle.acl_text.specs.declared.fault.FaultKind.{FaultKind}
use Rattle.acl_text.specs.declared.fault.FaultKind.TheVariants as kinds
use Rattle.acl_text.specs.declared.fault.FaultKind.TheVariants.{UnknownUser, UnknownGroup, BadHeader, MissingHeader, BadPath, RepeatedFile, NoMemory}
use Rattle.acl_text.specs.declared.fault.TextFault.{TextFault}
use Rattle.acl_text.specs.declared.fault.Which.{Which}
use Rattle.acl_text.specs.declared.fault.Which.TheVariants.{Access, Default}
use Rattle.acl_text.specs.declared.entries.PermSpec.{PermSpec}
use Rattle.acl_text.specs.declared.entries.Rules.{Rules}
use Rattle.acl_text.specs.declared.entries.Spec.{Spec}
use Rattle.acl_text.specs.InTurn.{at_place}
use Rattle.acl_text.specs.Results.{◌>>=◌}
use Rattle.acl_text.specs.Entries.{entry_of}
use Rattle.acl_text.specs.Words.{word_id}
use Rattle.acl_text.specs.declared.line.LineKind.{LineKind}
use Rattle.acl_text.specs.declared.line.LineKind.TheVariants.{Nothing, File, Owner, OwningGroup, Flags, Entry}
use Rattle.acl_text.specs.declared.record.DumpUse.{DumpUse}
use Rattle.acl_text.specs.declared.record.DumpUse.TheVariants.{Load, Restore}
use Rattle.acl_text.specs.declared.record.DumpRecord.{DumpRecord}
use Rattle.acl_text.specs.declared.draft.RecordDraft.{RecordDraft}
use Rattle.acl_text.specs.declared.item.Item.{Item}
use Rattle.acl_text.specs.declared.item.Item.TheVariants as item
use Rattle.acl_text.specs.Groups.{by_groups, grouped}
use Rattle.acl_text.specs.Lines.{content_of, begins_record}

-- ---- one line

-- setuid, setgid and sticky, each by its letter or `-`
abbrev pub flag_of : ℕ → ℕ → Option Bool
flag_of letter b = if b == letter then Some true else (if b == 45 then Some false else None)

abbrev pub all_three : Option Bool → Option Bool → Option Bool → Option (List Bool)
all_three (Some setuid) (Some setgid) (Some sticky) = Some (setuid ∷ setgid ∷ sticky ∷ [])
all_three (Some setuid) (Some setgid) None = None
all_three (Some setuid) None sticky = None
all_three None setgid sticky = None

abbrev pub flags_of : List ℕ → Option (List Bool)
flags_of (a ∷ b ∷ c ∷ []) = all_three (flag_of 115 a) (flag_of 115 b) (flag_of 116 c)
flags_of _ = None

-- a word that names a user or a group
abbrev pub named : (List ℕ → Option ℕ) → FaultKind → List ℕ → Result ℕ FaultKind
named look_up unknown [] = Err BadHeader
named look_up unknown (b ∷ bs) = ok_or (word_id look_up (b ∷ bs)) unknown

-- entries have permissions, may be default entries, and have no `X`
abbrev pub rules : Rules
rules = record { takes_default = true; takes_perms = true; takes_x = false }

abbrev pub perm_of_spec : Option PermSpec → Perms
perm_of_spec None = none
perm_of_spec (Some perm) = perm.fixed

abbrev pub entry_item : Spec → Item
entry_item spec = item.Entry spec.dflt (record { key = spec.key; perm = perm_of_spec spec.perm })

module _ (naming : Naming) where
  -- the content of a line that begins no record, or the lowest kind of fault that it has in itself
  abbrev pub item_of : ℕ → LineKind → List ℕ → Result (Option Item) FaultKind
  item_of at Nothing value = Ok None
  item_of at File value = Ok None
  item_of at Owner value = do
    id ← named naming.user_id UnknownUser value
    Ok (Some (item.Owner id))
  item_of at OwningGroup value = do
    id ← named naming.group_id UnknownGroup value
    Ok (Some (item.OwningGroup id))
  item_of at Flags value = do
    flags ← ok_or (flags_of value) BadHeader
    Ok (Some (item.Flags flags))
  item_of at Entry value = do
    spec ← entry_of naming rules at value
    Ok (Some (entry_item spec))

-- ---- an open record

abbrev pub has_no_entry : RecordDraft → Bool
has_no_entry draft = (length draft.access == 0) && (length draft.dacl == 0)

-- a header comes once, and before the entries
abbrev pub may_head : {A : Type 0} → Option A → RecordDraft → Bool
may_head there draft = not (is_some there) && has_no_entry draft

abbrev pub with_entry : Bool → entries.Entry → RecordDraft → RecordDraft
with_entry dflt entry draft = if dflt then record draft { dacl = draft.dacl ++ entry ∷ [] } else record draft { access = draft.access ++ entry ∷ [] }

abbrev pub with_item : Item → RecordDraft → Result RecordDraft FaultKind
with_item (item.Owner id) draft = if may_head draft.owner draft then Ok (record draft { owner = Some id }) else Err BadHeader
with_item (item.OwningGroup id) draft = if may_head draft.group draft then Ok (record draft { group = Some id }) else Err BadHeader
with_item (item.Flags flags) draft = if may_head draft.flags draft then Ok (record draft { flags = Some flags }) else Err BadHeader
with_item (item.Entry dflt entry) draft = Ok (with_entry dflt entry draft)

-- the content belongs to the open record, if there is one
abbrev pub add : Option Item → Option RecordDraft → Result (Option RecordDraft) FaultKind
add None draft = Ok draft
add (Some item) None = Err MissingHeader
add (Some item) (Some draft) = do
  new ← with_item item draft
  Ok (Some new)

-- whether a name ends in `/` as it is written
abbrev pub ends_in_slash : List ℕ → Bool
ends_in_slash name = ends_with nat_eq name (codes "/")

abbrev pub same_path : List (List ℕ) → List (List ℕ) → Bool
same_path = eq_by_cmp path_cmp

-- a record of this path came before
abbrev pub is_repeated : List DumpRecord → List (List ℕ) → Bool
is_repeated records path = list_any (λ r. same_path path r.path) records

-- a record that is opened by the value of its `file:` line
abbrev pub opened_draft : List DumpRecord → ℕ → List ℕ → Result RecordDraft FaultKind
opened_draft records at [] = Err BadHeader
opened_draft records at (b ∷ bs) = do
  path ← ok_or (path_of (b ∷ bs)) BadPath
  if is_repeated records path then Err RepeatedFile else Ok (record { at = at; path = path; slash = ends_in_slash (b ∷ bs); owner = None; group = None; flags = None; access = []; dacl = [] })

-- ---- a record as a whole

abbrev pub list_unless : Which → List entries.Entry → Option ListFault → Result KeyMap FaultKind
list_unless which es None = Ok (map_of es)
list_unless which es (Some fault) = Err (kinds.List which fault)

-- a list of entries, whose places count from 1
abbrev pub list_of : Which → List entries.Entry → Result KeyMap FaultKind
list_of which es = list_unless which es (fault es)

-- there is a default list where there are default entries
abbrev pub default_list_of : List entries.Entry → Result (Option KeyMap) FaultKind
default_list_of [] = Ok None
default_list_of (e ∷ es) = do
  acl ← list_of Default (e ∷ es)
  Ok (Some acl)

-- a file that is loaded needs its owner and its group
abbrev pub has_headers : DumpUse → RecordDraft → Bool
has_headers Load draft = is_some draft.owner && is_some draft.group
has_headers Restore draft = true

-- a record that has these lists, and all else of its lines
abbrev pub record_with : RecordDraft → KeyMap → Option KeyMap → DumpRecord
record_with draft access dacl = record { at = draft.at; path = draft.path; slash = draft.slash; owner = draft.owner; group = draft.group; flags = draft.flags; access = access; dacl = dacl }

abbrev pub whole : RecordDraft → Result DumpRecord FaultKind
whole draft = do
  access ← list_of Access draft.access
  dacl ← default_list_of draft.dacl
  Ok (record_with draft access dacl)

abbrev pub record_of : DumpUse → RecordDraft → Result DumpRecord FaultKind
record_of dump_use draft = if has_headers dump_use draft then whole draft else Err MissingHeader

-- ---- dumps

-- a line and its number
abbrev pub Numbered : Type 0
Numbered = ℕ × List ℕ

-- the lines with their numbers, which count from 1
abbrev pub lines_of : List ℕ → List Numbered
lines_of bytes = enumerate_from 1 (pieces 10 bytes)

abbrev pub begins : Numbered → Bool
begins l = begins_record (content_of l.1).0

abbrev pub open_record : List DumpRecord → Numbered → Result (Option RecordDraft) TextFault
open_record records l = at_place l.0 (opened_draft records l.0 (content_of l.1).1) (λ draft. Ok (Some draft))

-- the place of what a record lacks as a whole is its `file:` line
abbrev pub close : DumpUse → List DumpRecord → Option RecordDraft → Result (List DumpRecord) TextFault
close dump_use records None = Ok records
close dump_use records (Some draft) = at_place draft.at (record_of dump_use draft) (λ r. Ok (records ++ r ∷ []))

module _ (naming : Naming) where
  -- a line that begins no record, with the open record, or the lowest kind of fault that it has there
  abbrev pub judged : Option RecordDraft → Numbered → Result (Option RecordDraft) FaultKind
  judged draft l = do
    item ← item_of naming l.0 (content_of l.1).0 (content_of l.1).1
    add item draft

  abbrev pub line_in : Option RecordDraft → Numbered → Result (Option RecordDraft) TextFault
  line_in draft l = at_place l.0 (judged draft l) (λ new. Ok new)

  -- the records of a dump, or its first fault: record after record, each line by line and then as a whole; the lines
  -- before the first record belong to no record
  abbrev pub dump_of : DumpUse → List ℕ → Result (List DumpRecord) TextFault
  dump_of dump_use bytes = by_groups begins open_record line_in (close dump_use) [] None (grouped begins (lines_of bytes))
