-- No text has as its fault that memory ran out.
use Rattle.std.proofs.Common.{◌≡◌, ℕ, ◌+◌, ◌≤◌, Bool, true, false, if◌then◌else◌, List, [], ◌∷◌, ◌++◌, length, Option, Some, None, Result, Ok, Err, refl, sym, subst, arith, inl, inr}
use Rattle.std.specs.Prelude.{◌==◌, IfErr, codes, nat_le}
use Rattle.acl_entry.specs.Lists.{KeyMap, fault}
use Rattle.acl_entry.specs.declared.entry.Entry.{Entry}
use Rattle.acl_entry.specs.declared.entry.ListFault.{ListFault}
use Rattle.acl_names.specs.Paths.{path_of}
use Rattle.acl_names.specs.Pieces.{pieces}
use Rattle.acl_text.proofs.Lowest.{entry_lowest, fields-kind}
use Rattle.acl_text.proofs.LowestLines.{line_lowest}
use Rattle.acl_text.proofs.ReadBack.{faulty_where}
use Rattle.acl_text.specs.Attr.{attr_of}
use Rattle.acl_text.specs.Blanks.{trim_front, trimmed}
use Rattle.acl_text.specs.DumpLowest.{HasInItself}
use Rattle.acl_text.specs.Entries as lists
use Rattle.acl_text.specs.Fields.{default_of, entry_fields}
use Rattle.acl_text.specs.Groups.{grouped, group_of, in_turn}
use Rattle.acl_text.specs.InTurn.{at_place, read_each_from}
use Rattle.acl_text.specs.Lines.{begins_with, content_after_white_space, content_of, header_of}
use Rattle.acl_text.specs.Lowest.{number, ReportsLowest, EntryHas}
use Rattle.acl_text.specs.Naming.{Naming}
use Rattle.acl_text.specs.Records as dumps
use Rattle.acl_text.specs.declared.entries.Rules.{Rules}
use Rattle.acl_text.specs.declared.entries.Sep.{Sep}
use Rattle.acl_text.specs.declared.entries.Sep.TheVariants.{Line}
use Rattle.acl_text.specs.declared.entries.Spec.{Spec}
use Rattle.acl_text.specs.declared.entries.Want.{Want}
use Rattle.acl_text.specs.declared.fault.FaultKind.{FaultKind}
use Rattle.acl_text.specs.declared.fault.FaultKind.TheVariants as kinds
use Rattle.acl_text.specs.declared.fault.TextFault.{TextFault}
use Rattle.acl_text.specs.declared.fault.Which.{Which}
use Rattle.acl_text.specs.declared.fault.Which.TheVariants.{Access, Default}
use Rattle.acl_text.specs.declared.record.DumpRecord.{DumpRecord}
use Rattle.acl_text.specs.declared.record.DumpUse.{DumpUse}
use Rattle.facl.proofs.Failing.{both, either, there}

-- it is not that memory ran out
abbrev pub IsOther : FaultKind → Type 0
IsOther kinds.NoMemory = ⊥
IsOther kind = Unit {0}

abbrev pub IsOtherAt : TextFault → Type 0
IsOtherAt fault = IsOther fault.kind

is_other : (kind : FaultKind) → number kind ≤ 15 → IsOther kind
is_other kinds.NoMemory h = absurd (omega arith)
is_other kind h = tt

lowest : {A : Type 0} (has : FaultKind → Type 0) (r : Result A FaultKind) → ReportsLowest has r → ((kind : FaultKind) → has kind → IsOther kind) → IfErr r IsOther
lowest has (Ok a) law other = tt
lowest has (Err kind) law other = other kind (law.lowest kind refl).applies

placed : {S T : Type 0} (at : ℕ) (r : Result S FaultKind) (more : S → Result T TextFault) → IfErr r IsOther → ((s : S) → IfErr (more s) IsOtherAt) → IfErr (at_place at r more) IsOtherAt
placed at (Ok s) more h each = each s
placed at (Err kind) more h each = h

-- ---- entries

each : {S P : Type 0} (judge : ℕ → S → P → Result S FaultKind) → ((at : ℕ) (s : S) (p : P) → IfErr (judge at s p) IsOther) → (at : ℕ) (s : S) (ps : List P)
    → IfErr (read_each_from judge at s ps) IsOtherAt
each judge h at s [] = tt
each judge h at s (p ∷ ps) = placed at (judge at s p) _ (h at s p) (λ more. each judge h (at + 1) more ps)

turn : {S P : Type 0} (step : S → P → Result S TextFault) → ((s : S) (p : P) → IfErr (step s p) IsOtherAt) → (s : S) (ps : List P) → IfErr (in_turn step s ps) IsOtherAt
turn step h s [] = tt
turn step h s (p ∷ ps) = both IsOtherAt (step s p) _ (h s p) (λ more. turn step h more ps)

module _ (naming : Naming) where
  entry_has : (rules : Rules) (entry : List ℕ) (kind : FaultKind) → EntryHas naming rules entry kind → IsOther kind
  entry_has rules entry kind h = let few = fields-kind naming rules (default_of (entry_fields entry)) kind h in is_other kind (omega arith)

  one_more : (sep : Sep) (rules : Rules) (at : ℕ) (specs : List Spec) (piece : List ℕ) → IfErr (lists.one_more naming sep rules at specs piece) IsOther
  one_more sep rules at specs piece =
      let entry = lists.content sep piece in
      either IsOther (length (trimmed entry) == 0) _ _ tt
      (both IsOther (lists.entry_of naming rules at entry) _ (lowest _ _ (entry_lowest naming rules at entry) (entry_has rules entry))
      (λ spec. either IsOther (nat_le lists.most_text_entries (length specs)) (Err kinds.TooMany) (Ok (specs ++ spec ∷ [])) tt tt))

  pub entries_have_memory : (sep : Sep) (want : Want) (bytes : List ℕ) → IfErr (lists.entries_of naming sep want bytes) IsOtherAt
  entries_have_memory sep want bytes = each (lists.one_more naming sep (lists.rules_of want)) (one_more sep (lists.rules_of want)) 1 [] (pieces (lists.separator sep) bytes)

-- ---- dumps

same_other : (k j : FaultKind) → k ≡ j → IsOther j → IsOther k
same_other k j same h = subst IsOther (sym same) h

list_unless : (which : Which) (es : List Entry) (o : Option ListFault) → IfErr (dumps.list_unless which es o) IsOther
list_unless which es None = tt
list_unless which es (Some f) = tt

default_list : (es : List Entry) → IfErr (dumps.default_list_of es) IsOther
default_list [] = tt
default_list (e ∷ es) = both IsOther (dumps.list_of Default (e ∷ es)) _ (list_unless Default (e ∷ es) (fault (e ∷ es))) (λ acl. tt)

opened : (records : List DumpRecord) (at : ℕ) (value : List ℕ) → IfErr (dumps.opened_draft records at value) IsOther
opened records at [] = tt
opened records at (b ∷ bs) = there IsOther (path_of (b ∷ bs)) kinds.BadPath _ tt (λ path. either IsOther (dumps.is_repeated records path) _ _ tt tt)

-- the kinds of fault that something has by its kind and its value are other ones
abbrev Fine : {K : Type 0} → (K → List ℕ → FaultKind → Type 0) → K → List ℕ → Type 0
Fine Has kind value = (k : FaultKind) → Has kind value k → IsOther k

fine_either : {K : Type 0} (Has : K → List ℕ → FaultKind → Type 0) (b : Bool) (x y : K × List ℕ) → Fine Has x.0 x.1 → Fine Has y.0 y.1
    → Fine Has (if b then x else y).0 (if b then x else y).1
fine_either Has true x y h g = h
fine_either Has false x y h g = g

module _ (dump_use : DumpUse) (naming : Naming) where
  header : (text : List ℕ) → Fine (HasInItself naming) (header_of text).0 (header_of text).1
  header text =
      fine_either (HasInItself naming) (begins_with text (codes "file:")) _ _ (λ k h. absurd h)
      (fine_either (HasInItself naming) (begins_with text (codes "owner:")) _ _ (λ k h. elim h [ inl e ↦ same_other k _ e.is tt | inr n ↦ same_other k _ n.is tt ])
      (fine_either (HasInItself naming) (begins_with text (codes "group:")) _ _ (λ k h. elim h [ inl e ↦ same_other k _ e.is tt | inr n ↦ same_other k _ n.is tt ])
      (fine_either (HasInItself naming) (begins_with text (codes "flags:")) _ _ (λ k h. same_other k _ h.is tt) (λ k h. absurd h))))

  itself : (line : List ℕ) → Fine (HasInItself naming) (content_after_white_space line).0 (content_after_white_space line).1
  itself [] = λ k h. absurd h
  itself (b ∷ bs) = fine_either (HasInItself naming) (b == 35) _ _ (header (trim_front bs)) (entry_has naming dumps.rules (lists.content Line (b ∷ bs)))

  line : (draft : _) (l : dumps.Numbered) → IfErr (dumps.line_in naming draft l) IsOtherAt
  line draft l =
      placed l.0 (dumps.judged naming draft l) _
      (lowest _ _ (line_lowest naming draft l)
      (λ k h. elim h [ inl own ↦ itself (trim_front l.1) k own | inr other ↦ elim other [ inl m ↦ same_other k _ m.is tt | inr m ↦ same_other k _ m.is tt ] ]))
      (λ new. tt)

  closed : (records : List DumpRecord) (o : _) → IfErr (dumps.close dump_use records o) IsOtherAt
  closed records None = tt
  closed records (Some draft) =
      placed draft.at (dumps.record_of dump_use draft) _
      (either IsOther (dumps.has_headers dump_use draft) _ _
      (both IsOther (dumps.list_of Access draft.access) _ (list_unless Access draft.access (fault draft.access))
      (λ access. both IsOther (dumps.default_list_of draft.dacl) _ (default_list draft.dacl) (λ dacl. tt))) tt)
      (λ r. tt)

  group : (records : List DumpRecord) (g : dumps.Numbered × List dumps.Numbered)
      → IfErr (group_of dumps.begins dumps.open_record (dumps.line_in naming) (dumps.close dump_use) records g) IsOtherAt
  group records g =
      both IsOtherAt (dumps.open_record records g.0) _
      (placed g.0.0 (dumps.opened_draft records g.0.0 (content_of g.0.1).1) _ (opened records g.0.0 (content_of g.0.1).1) (λ draft. tt))
      (λ draft. both IsOtherAt (in_turn (dumps.line_in naming) draft g.1) _ (turn (dumps.line_in naming) line draft g.1) (λ all. closed records all))

  pub dump_has_memory : (bytes : List ℕ) → IfErr (dumps.dump_of naming dump_use bytes) IsOtherAt
  dump_has_memory bytes =
      let g = grouped dumps.begins (dumps.lines_of bytes) in
      both IsOtherAt (in_turn (dumps.line_in naming) None g.0) _ (turn (dumps.line_in naming) line None g.0)
      (λ all. both IsOtherAt (dumps.close dump_use [] all) _ (closed [] all) (λ more. turn (group_of dumps.begins dumps.open_record (dumps.line_in naming) (dumps.close dump_use)) group more g.1))

-- ---- attributes

pub attr_has_memory : (bytes : List ℕ) → IfErr (attr_of bytes) IsOtherAt
attr_has_memory bytes = by (attr_of bytes) refl
  where
    by : (r : Result KeyMap TextFault) → attr_of bytes ≡ r → IfErr r IsOtherAt
    by (Ok acl) is = tt
    by (Err f) is = same_other f.kind kinds.BadAttr (faulty_where bytes f is).kind tt
