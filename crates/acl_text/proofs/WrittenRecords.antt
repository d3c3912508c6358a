-- What is written of records is read as those records.
use Rattle.std.proofs.Common.{◌≡◌, ℕ, ◌+◌, ◌<◌, Bool, true, false, cond, List, [], ◌∷◌, ◌++◌, length, Option, Some, None, Result, Ok, Err, refl, sym, ap, subst, ◌∙◌, append_assoc, arith}
use Rattle.std.specs.Prelude.{◌==◌, ◌||◌, ◌&&◌, codes, is_some, ok_or}
use Rattle.std.specs.List.{list_all, list_any, flat_map, enumerate_from, AllByRecursion}
use Rattle.std.specs.FinMap as maps
use Rattle.std.proofs.lemmas.List.{append-nil, map-append}
use Rattle.std.proofs.lemmas.List.Elements.{recursion_from_All}
use Rattle.acl_entry.specs.declared.entry.Entry.{Entry}
use Rattle.acl_entry.specs.declared.entry.Key.TheVariants.{Mask}
use Rattle.acl_entry.specs.Ids.{nobody}
use Rattle.acl_entry.specs.Keys.{id_of}
use Rattle.acl_entry.specs.Lists.{KeyMap, entries, fault, IsValid}
use Rattle.acl_entry.specs.Perms.{Perms}
use Rattle.acl_entry.proofs.Maps.{map_of-entries}
use Rattle.acl_names.specs.Pieces.{pieces}
use Rattle.acl_names.specs.Paths.{path_of, path_text, is_component}
use Rattle.acl_text.specs.Naming.{Naming}
use Rattle.acl_text.specs.declared.fault.FaultKind.{FaultKind}
use Rattle.acl_text.specs.declared.fault.FaultKind.TheVariants.{UnknownUser, UnknownGroup, BadHeader, MissingHeader, BadPath, RepeatedFile}
use Rattle.acl_text.specs.declared.fault.TextFault.{TextFault}
use Rattle.acl_text.specs.declared.fault.Which.{Which}
use Rattle.acl_text.specs.declared.fault.Which.TheVariants.{Access, Default}
use Rattle.acl_text.specs.InTurn.{at_place}
use Rattle.acl_text.specs.Results.{◌>>=◌}
use Rattle.acl_text.specs.Blanks.{is_blank, trimmed}
use Rattle.acl_text.specs.Writing.{id_text, IsKeyNamed}
use Rattle.acl_text.proofs.Plain.{is_plain, plain-line, plain-blank, none_of, trimmed_none, pieces_at}
use Rattle.acl_text.proofs.WrittenWords.{IsWordOf, word_again}
use Rattle.acl_text.specs.declared.line.LineKind.{LineKind}
use Rattle.acl_text.specs.declared.line.LineKind.TheVariants as lines
use Rattle.acl_text.specs.declared.record.DumpUse.{DumpUse}
use Rattle.acl_text.specs.declared.record.DumpUse.TheVariants.{Load, Restore}
use Rattle.acl_text.specs.declared.record.DumpRecord.{DumpRecord}
use Rattle.acl_text.specs.declared.draft.RecordDraft.{RecordDraft}
use Rattle.acl_text.specs.declared.effective.Effective.TheVariants.{WhereMasked}
use Rattle.acl_text.specs.declared.item.Item.{Item}
use Rattle.acl_text.specs.declared.item.Item.TheVariants as item
use Rattle.acl_text.specs.Lines.{content_of, begins_record}
use Rattle.acl_text.specs.Records.{named, flags_of, item_of, add, opened_draft, ends_in_slash, is_repeated, same_path, list_of, list_unless, default_list_of}
use Rattle.acl_text.specs.Records.{has_headers, whole, begins, open_record, close, line_in, lines_of, dump_of}
use Rattle.acl_text.specs.DumpWriting.{mark, marks, flags_text, slash_text, file_text, owner_text, group_text, shown, effective_text, entry_line, list_text, default_text, record_text}
use Rattle.acl_text.specs.RoundTrips.{IsFoundIf, AreFlags, HasHeaders, IsListIf, IsReadable, AreApart, paths, lines_if, default_count, line_count, placed, dump_text}
use Rattle.acl_text.proofs.Streams.{dump_stream, streamed_by_groups}
use Rattle.acl_text.proofs.WrittenEntries.{line_again, line_clean}
use Rattle.acl_text.proofs.WrittenNames.{name_clean, slash_again, name_some, name_again}

-- ---- whole lists

listed : (which : Which) (acl : KeyMap) → IsValid acl → list_of which (entries acl) ≡ Ok acl
listed which acl valid = ap (list_unless which (entries acl)) valid ∙ ap (λ m. Ok m) (map_of-entries acl)

default_listed : (es : List Entry) (acl : KeyMap) → fault es ≡ None → list_of Default es ≡ Ok acl → default_list_of es ≡ Ok (Some acl)
default_listed [] acl valid is = absurd (cc valid)
default_listed (e ∷ es) acl valid is = ap (λ r. r >>= (λ acl. Ok (Some acl))) is

abbrev default_entries : Option KeyMap → List Entry
default_entries None = []
default_entries (Some acl) = entries acl

-- a record with all its lines
abbrev all_lines : ℕ → DumpRecord → RecordDraft
all_lines at r = record { at = at; path = r.path; slash = r.slash; owner = r.owner; group = r.group; flags = r.flags; access = entries r.access; dacl = default_entries r.dacl }

five : (a b c d e f rest : List ℕ) → ((a ++ (b ++ (c ++ d))) ++ (e ++ (f ++ 10 ∷ []))) ++ rest ≡ a ++ (b ++ (c ++ (d ++ (e ++ (f ++ 10 ∷ rest)))))
five a b c d e f rest = simp append_assoc

module _ (dump_use : DumpUse) (naming : Naming) where
  abbrev Readable : DumpRecord → Type 0
  Readable r = IsReadable naming dump_use r

  headers : (r : DumpRecord) (at : ℕ) → HasHeaders dump_use r → has_headers dump_use (all_lines at r) ≡ true
  headers r at there = elim dump_use as (λ u. HasHeaders u r → has_headers u (all_lines at r) ≡ true) [
    | Load ↦ λ h. ap (λ b. b && is_some r.group) h.0 ∙ h.1
    | Restore ↦ λ h. refl
  ] there

  defaults : (d : Option KeyMap) → IsListIf naming d → default_list_of (default_entries d) ≡ Ok d
  defaults None is = refl
  defaults (Some acl) is = default_listed (entries acl) acl is.valid (listed Default acl is.valid)

  pub closed : (records : List DumpRecord) (r : DumpRecord) (at : ℕ) → Readable r → close dump_use records (Some (all_lines at r)) ≡ Ok (records ++ record r { at = at } ∷ [])
  closed records r at is =
      let make : KeyMap → Option KeyMap → DumpRecord =
      λ access dacl. record { at = at; path = r.path; slash = r.slash; owner = r.owner; group = r.group; flags = r.flags; access = access; dacl = dacl } in
      ap (λ b. at_place at (cond b (whole (all_lines at r)) (Err MissingHeader)) (λ n. Ok (records ++ n ∷ []))) (headers r at is.headers)
      ∙ (ap (λ a. at_place at (a >>= (λ access. default_list_of (default_entries r.dacl) >>= (λ dacl. Ok (make access dacl)))) (λ n. Ok (records ++ n ∷ []))) (listed Access r.access is.access.valid)
      ∙ ap (λ d. at_place at (d >>= (λ dacl. Ok (make r.access dacl))) (λ n. Ok (records ++ n ∷ []))) (defaults r.dacl is.dacl))

  -- ---- lines

  abbrev reading : List DumpRecord → Option RecordDraft → ℕ → List ℕ → Result (List DumpRecord) TextFault
  reading records draft at bytes = dump_stream naming dump_use records draft (enumerate_from at (pieces 10 bytes))

  abbrev step : List DumpRecord → Option RecordDraft → ℕ → LineKind × List ℕ → Result (List DumpRecord × Option RecordDraft) TextFault
  step records draft at c =
      cond (begins_record c.0) (close dump_use records draft >>= (λ more. at_place at (opened_draft more at c.1) (λ d. Ok (Some d)) >>= (λ new. Ok (more, new))))
      ((at_place at (item_of naming at c.0 c.1 >>= (λ item. add item draft)) (λ new. Ok new)) >>= (λ more. Ok (records, more)))

  cut : (records : List DumpRecord) (draft : Option RecordDraft) (at : ℕ) (line rest : List ℕ) (c : LineKind × List ℕ) → AllByRecursion (λ b. (b == 10) ≡ false) line → content_of line ≡ c
      → reading records draft at (line ++ 10 ∷ rest) ≡ (step records draft at c >>= (λ s. reading s.0 s.1 (at + 1) rest))
  cut records draft at line rest c clean is =
      ap (λ ps. dump_stream naming dump_use records draft (enumerate_from at ps)) (pieces_at 10 line rest clean)
      ∙ ap (λ k. step records draft at k >>= (λ s. reading s.0 s.1 (at + 1) rest)) is

  -- a line that adds to the open record
  pub read_one_item : (records : List DumpRecord) (draft new : Option RecordDraft) (at : ℕ) (line rest : List ℕ) (k : LineKind) (v : List ℕ) (s : Option Item)
      → AllByRecursion (λ b. (b == 10) ≡ false) line → content_of line ≡ (k, v)
      → begins_record k ≡ false → item_of naming at k v ≡ Ok s → add s draft ≡ Ok new → reading records draft at (line ++ 10 ∷ rest) ≡ reading records new (at + 1) rest
  read_one_item records draft new at line rest k v s clean is other reads_as adds =
      let on = λ (r : Result (List DumpRecord × Option RecordDraft) TextFault). (r >>= (λ s. reading s.0 s.1 (at + 1) rest)) in
      cut records draft at line rest (k, v) clean is
      ∙ (ap (λ b. on (cond b (close dump_use records draft >>= (λ more. at_place at (opened_draft more at v) (λ d. Ok (Some d)) >>= (λ new. Ok (more, new))))
      ((at_place at (item_of naming at k v >>= (λ item. add item draft)) (λ new. Ok new)) >>= (λ more. Ok (records, more))))) other
      ∙ (ap (λ r. on ((at_place at (r >>= (λ item. add item draft)) (λ new. Ok new)) >>= (λ more. Ok (records, more)))) reads_as
      ∙ ap (λ r. on (at_place at r (λ new. Ok new) >>= (λ more. Ok (records, more)))) adds))

  -- a line that begins a record
  pub opened : (records more : List DumpRecord) (draft : Option RecordDraft) (new : RecordDraft) (at : ℕ) (line rest v : List ℕ)
      → AllByRecursion (λ b. (b == 10) ≡ false) line → content_of line ≡ (lines.File, v)
      → close dump_use records draft ≡ Ok more → opened_draft more at v ≡ Ok new → reading records draft at (line ++ 10 ∷ rest) ≡ reading more (Some new) (at + 1) rest
  opened records more draft new at line rest v clean is closes begins =
      let on = λ (r : Result (List DumpRecord × Option RecordDraft) TextFault). (r >>= (λ s. reading s.0 s.1 (at + 1) rest)) in
      cut records draft at line rest (lines.File, v) clean is
      ∙ (ap (λ r. on (r >>= (λ more. at_place at (opened_draft more at v) (λ d. Ok (Some d)) >>= (λ new. Ok (more, new))))) closes
      ∙ ap (λ r. on (at_place at r (λ d. Ok (Some d)) >>= (λ new. Ok (more, new)))) begins)

  -- ---- headers

  abbrev drafted : ℕ → DumpRecord → Option ℕ → Option ℕ → Option (List Bool) → List Entry → List Entry → Option RecordDraft
  drafted at r owner group flags access dacl = Some (record { at = at; path = r.path; slash = r.slash; owner = owner; group = group; flags = flags; access = access; dacl = dacl })

  opened_from : (records : List DumpRecord) (at : ℕ) (r : DumpRecord) (name : List ℕ) → 0 < length name → path_of name ≡ Some r.path → ends_in_slash name ≡ r.slash → is_repeated records r.path ≡ false
      → opened_draft records at name ≡ Ok (record { at = at; path = r.path; slash = r.slash; owner = None; group = None; flags = None; access = []; dacl = [] })
  opened_from records at r [] some is slash new = absurd (omega arith)
  opened_from records at r (b ∷ bs) some is slash new =
      let make : List (List ℕ) → Bool → RecordDraft = λ path slash. record { at = at; path = path; slash = slash; owner = None; group = None; flags = None; access = []; dacl = [] } in
      ap (λ o. ok_or o BadPath >>= (λ path. cond (is_repeated records path) (Err RepeatedFile) (Ok (make path (ends_in_slash (b ∷ bs)))))) is
      ∙ (ap (λ c. cond c (Err RepeatedFile) (Ok (make r.path (ends_in_slash (b ∷ bs))))) new ∙ ap (λ c. Ok (make r.path c)) slash)

  file_chunk : (records more : List DumpRecord) (draft : Option RecordDraft) (at : ℕ) (r : DumpRecord) (rest : List ℕ) → close dump_use records draft ≡ Ok more
      → list_all is_component r.path ≡ true → is_repeated more r.path ≡ false
      → reading records draft at (file_text r.path r.slash ++ rest) ≡ reading more (drafted at r None None None [] []) (at + 1) rest
  file_chunk records more draft at r rest closes are new =
      let p = path_text r.path in
      let s = slash_text r.slash in
      let name = p ++ s in
      let moved : (p ++ (s ++ 10 ∷ [])) ++ rest ≡ name ++ 10 ∷ rest = append_assoc p (s ++ 10 ∷ []) rest
      ∙ (ap (λ (l : List ℕ). p ++ l) (append_assoc s (10 ∷ []) rest) ∙ sym (append_assoc p s (10 ∷ rest))) in
      ap (λ (l : List ℕ). reading records draft at (codes "# file: " ++ l)) moved
      ∙ opened records more draft (record { at = at; path = r.path; slash = r.slash; owner = None; group = None; flags = None; access = []; dacl = [] }) at (codes "# file: " ++ name) rest name
      (refl, (refl, (refl, (refl, (refl, (refl, (refl, (refl, name_clean r.path r.slash)))))))) refl closes
      (opened_from more at r name (name_some r.path r.slash are) (name_again r.path r.slash are) (slash_again r.path r.slash are) new)

  named_again : (look_up : List ℕ → Option ℕ) (unknown : FaultKind) (id : ℕ) (w : List ℕ) → IsWordOf look_up id w → named look_up unknown w ≡ Ok id
  named_again look_up unknown id [] is = absurd (omega (arith, is.some))
  named_again look_up unknown id (b ∷ bs) is = ap (λ o. ok_or o unknown) is.again

  bare : (w : List ℕ) → list_all is_plain w ≡ true → trimmed w ≡ w
  bare w plain = trimmed_none w (none_of is_plain is_blank plain-blank w plain)

  no_more : (records : List DumpRecord) (draft : Option RecordDraft) (at : ℕ) (rest : List ℕ) → reading records draft at rest ≡ reading records draft (at + 0) rest
  no_more records draft at rest = ap (λ (n : ℕ). reading records draft n rest) (omega arith)

  owner_chunk : (records : List DumpRecord) (first at : ℕ) (r : DumpRecord) (owner : Option ℕ) (rest : List ℕ) → IsFoundIf naming.user_id naming.user_name owner
      → reading records (drafted first r None None None [] []) at (owner_text naming.user_name owner ++ rest) ≡ reading records (drafted first r owner None None [] []) (at + lines_if owner) rest
  owner_chunk records first at r None rest found = no_more records (drafted first r None None None [] []) at rest
  owner_chunk records first at r (Some id) rest found =
      let w = id_text id (naming.user_name id) in
      let word = word_again naming.user_id id (naming.user_name id) found.small found.named in
      ap (λ (l : List ℕ). reading records (drafted first r None None None [] []) at (codes "# owner: " ++ l)) (append_assoc w (10 ∷ []) rest)
      ∙ read_one_item records (drafted first r None None None [] []) (drafted first r (Some id) None None [] []) at (codes "# owner: " ++ w) rest lines.Owner w (Some (item.Owner id))
      (refl, (refl, (refl, (refl, (refl, (refl, (refl, (refl, (refl, none_of is_plain (λ b. b == 10) plain-line w word.plain)))))))))
      (ap (λ (v : List ℕ). (lines.Owner, v)) (bare w word.plain)) refl
      (ap (λ n. n >>= (λ id. Ok (Some (item.Owner id)))) (named_again naming.user_id UnknownUser id w word)) refl

  group_chunk : (records : List DumpRecord) (first at : ℕ) (r : DumpRecord) (owner group : Option ℕ) (rest : List ℕ) → IsFoundIf naming.group_id naming.group_name group
      → reading records (drafted first r owner None None [] []) at (group_text naming.group_name group ++ rest) ≡ reading records (drafted first r owner group None [] []) (at + lines_if group) rest
  group_chunk records first at r owner None rest found = no_more records (drafted first r owner None None [] []) at rest
  group_chunk records first at r owner (Some id) rest found =
      let w = id_text id (naming.group_name id) in
      let word = word_again naming.group_id id (naming.group_name id) found.small found.named in
      ap (λ (l : List ℕ). reading records (drafted first r owner None None [] []) at (codes "# group: " ++ l)) (append_assoc w (10 ∷ []) rest)
      ∙ read_one_item records (drafted first r owner None None [] []) (drafted first r owner (Some id) None [] []) at (codes "# group: " ++ w) rest lines.OwningGroup w (Some (item.OwningGroup id))
      (refl, (refl, (refl, (refl, (refl, (refl, (refl, (refl, (refl, none_of is_plain (λ b. b == 10) plain-line w word.plain)))))))))
      (ap (λ (v : List ℕ). (lines.OwningGroup, v)) (bare w word.plain)) refl
      (ap (λ n. n >>= (λ id. Ok (Some (item.OwningGroup id)))) (named_again naming.group_id UnknownGroup id w word)) refl

  flags_again : (a b c : Bool) → flags_of (trimmed (32 ∷ marks (a ∷ b ∷ c ∷ []))) ≡ Some (a ∷ b ∷ c ∷ [])
  flags_again true true true = refl
  flags_again true true false = refl
  flags_again true false true = refl
  flags_again true false false = refl
  flags_again false true true = refl
  flags_again false true false = refl
  flags_again false false true = refl
  flags_again false false false = refl

  mark_clean : (a : Bool) → ((mark 115 a == 10) ≡ false) × ((mark 116 a == 10) ≡ false)
  mark_clean true = (refl, refl)
  mark_clean false = (refl, refl)

  flags_chunk : (records : List DumpRecord) (first at : ℕ) (r : DumpRecord) (owner group : Option ℕ) (flags : Option (List Bool)) (rest : List ℕ) → AreFlags flags
      → reading records (drafted first r owner group None [] []) at (flags_text flags ++ rest) ≡ reading records (drafted first r owner group flags [] []) (at + lines_if flags) rest
  flags_chunk records first at r owner group None rest three = no_more records (drafted first r owner group None [] []) at rest
  flags_chunk records first at r owner group (Some []) rest three = absurd (omega arith)
  flags_chunk records first at r owner group (Some (a ∷ [])) rest three = absurd (omega arith)
  flags_chunk records first at r owner group (Some (a ∷ b ∷ [])) rest three = absurd (omega arith)
  flags_chunk records first at r owner group (Some (a ∷ b ∷ c ∷ [])) rest three =
      let flags = a ∷ b ∷ c ∷ [] in
      read_one_item records (drafted first r owner group None [] []) (drafted first r owner group (Some flags) [] []) at
      (codes "# flags: " ++ marks flags) rest lines.Flags (trimmed (32 ∷ marks flags)) (Some (item.Flags flags))
      (refl, (refl, (refl, (refl, (refl, (refl, (refl, (refl, (refl, ((mark_clean a).0, ((mark_clean b).0, ((mark_clean c).1, tt))))))))))))
      refl refl (ap (λ f. ok_or f BadHeader >>= (λ flags. Ok (Some (item.Flags flags)))) (flags_again a b c)) refl
  flags_chunk records first at r owner group (Some (a ∷ b ∷ c ∷ d ∷ more)) rest three = absurd (omega arith)

  -- ---- entries

  abbrev NamedEntry : Entry → Type 0
  NamedEntry e = IsKeyNamed naming e.key

  abbrev lines_text : Which → Option Perms → List Entry → List ℕ
  lines_text which mask es = flat_map (entry_line naming WhereMasked which mask) es

  abbrev plain_line : Which → Option Perms → Entry → List ℕ
  plain_line which mask e = shown naming which e ++ effective_text WhereMasked mask e (length (shown naming which e))

  moved_line : (which : Which) (mask : Option Perms) (e : Entry) (es : List Entry) (rest : List ℕ)
      → lines_text which mask (e ∷ es) ++ rest ≡ plain_line which mask e ++ 10 ∷ (lines_text which mask es ++ rest)
  moved_line which mask e es rest =
      let text = shown naming which e in
      let note = effective_text WhereMasked mask e (length text) in
      let more = lines_text which mask es in
      append_assoc (text ++ (note ++ 10 ∷ [])) more rest
      ∙ (append_assoc text (note ++ 10 ∷ []) (more ++ rest)
      ∙ (ap (λ (l : List ℕ). text ++ l) (append_assoc note (10 ∷ []) (more ++ rest)) ∙ sym (append_assoc text note (10 ∷ (more ++ rest)))))

  access_chunk : (records : List DumpRecord) (first at : ℕ) (r : DumpRecord) (mask : Option Perms) (xs es : List Entry) (rest : List ℕ)
      → AllByRecursion (λ e. id_of e.key < nobody) es → AllByRecursion NamedEntry es
      → reading records (drafted first r r.owner r.group r.flags xs []) at (lines_text Access mask es ++ rest)
      ≡ reading records (drafted first r r.owner r.group r.flags (xs ++ es) []) (at + length es) rest
  access_chunk records first at r mask xs [] rest small found =
      no_more records (drafted first r r.owner r.group r.flags xs []) at rest
      ∙ ap (λ (l : List Entry). reading records (drafted first r r.owner r.group r.flags l []) (at + 0) rest) (sym (append-nil xs))
  access_chunk records first at r mask xs (e ∷ es) rest small found =
      let draft = drafted first r r.owner r.group r.flags in
      let reads_as = line_again naming at WhereMasked Access mask e small.0 found.0 in
      ap (reading records (draft xs []) at) (moved_line Access mask e es rest)
      ∙ (read_one_item records (draft xs []) (draft (xs ++ e ∷ []) []) at (plain_line Access mask e) (lines_text Access mask es ++ rest) lines.Entry reads_as.0 (Some (item.Entry false e))
      (line_clean naming WhereMasked Access mask e small.0 found.0) reads_as.1 refl reads_as.2 refl
      ∙ (access_chunk records first (at + 1) r mask (xs ++ e ∷ []) es rest small.1 found.1
      ∙ (ap (λ (l : List Entry). reading records (draft l []) (at + 1 + length es) rest) (append_assoc xs (e ∷ []) es)
      ∙ ap (λ (n : ℕ). reading records (draft (xs ++ e ∷ es) []) n rest) (omega arith))))

  default_chunk : (records : List DumpRecord) (first at : ℕ) (r : DumpRecord) (mask : Option Perms) (access xs es : List Entry) (rest : List ℕ)
      → AllByRecursion (λ e. id_of e.key < nobody) es → AllByRecursion NamedEntry es
      → reading records (drafted first r r.owner r.group r.flags access xs) at (lines_text Default mask es ++ rest)
      ≡ reading records (drafted first r r.owner r.group r.flags access (xs ++ es)) (at + length es) rest
  default_chunk records first at r mask access xs [] rest small found =
      no_more records (drafted first r r.owner r.group r.flags access xs) at rest
      ∙ ap (λ (l : List Entry). reading records (drafted first r r.owner r.group r.flags access l) (at + 0) rest) (sym (append-nil xs))
  default_chunk records first at r mask access xs (e ∷ es) rest small found =
      let draft = drafted first r r.owner r.group r.flags access in
      let reads_as = line_again naming at WhereMasked Default mask e small.0 found.0 in
      ap (reading records (draft xs) at) (moved_line Default mask e es rest)
      ∙ (read_one_item records (draft xs) (draft (xs ++ e ∷ [])) at (plain_line Default mask e) (lines_text Default mask es ++ rest) lines.Entry reads_as.0 (Some (item.Entry true e))
      (line_clean naming WhereMasked Default mask e small.0 found.0) reads_as.1 refl reads_as.2 refl
      ∙ (default_chunk records first (at + 1) r mask access (xs ++ e ∷ []) es rest small.1 found.1
      ∙ (ap (λ (l : List Entry). reading records (draft l) (at + 1 + length es) rest) (append_assoc xs (e ∷ []) es)
      ∙ ap (λ (n : ℕ). reading records (draft (xs ++ e ∷ es)) n rest) (omega arith))))

  defaults_chunk : (records : List DumpRecord) (first at : ℕ) (r : DumpRecord) (access : List Entry) (dacl : Option KeyMap) (rest : List ℕ) → IsListIf naming dacl
      → reading records (drafted first r r.owner r.group r.flags access []) at (default_text naming WhereMasked dacl ++ rest)
      ≡ reading records (drafted first r r.owner r.group r.flags access (default_entries dacl)) (at + default_count dacl) rest
  defaults_chunk records first at r access None rest is = no_more records (drafted first r r.owner r.group r.flags access []) at rest
  defaults_chunk records first at r access (Some acl) rest is =
      default_chunk records first at r (maps.get acl Mask) access [] (entries acl) rest (recursion_from_All (λ (e : Entry). id_of e.key < nobody) (entries acl) is.ids) is.named

  -- ---- records

  apart_text : (r : DumpRecord) (rest : List ℕ) → record_text naming r ++ rest
      ≡ file_text r.path r.slash
      ++ (owner_text naming.user_name r.owner
      ++ (group_text naming.group_name r.group ++ (flags_text r.flags ++ (list_text naming WhereMasked Access r.access ++ (default_text naming WhereMasked r.dacl ++ 10 ∷ rest)))))
  apart_text r rest = five (file_text r.path r.slash) (owner_text naming.user_name r.owner) (group_text naming.group_name r.group) (flags_text r.flags)
      (list_text naming WhereMasked Access r.access) (default_text naming WhereMasked r.dacl) rest

  record_chunk : (records more : List DumpRecord) (draft : Option RecordDraft) (at : ℕ) (r : DumpRecord) (rest : List ℕ)
      → close dump_use records draft ≡ Ok more → is_repeated more r.path ≡ false → Readable r
      → reading records draft at (record_text naming r ++ rest) ≡ reading more (Some (all_lines at r)) (at + line_count r) rest
  record_chunk records more draft at r rest closes new is =
      let ending = default_text naming WhereMasked r.dacl ++ 10 ∷ rest in
      let listing = list_text naming WhereMasked Access r.access ++ ending in
      let flagged = flags_text r.flags ++ listing in
      let grouping = group_text naming.group_name r.group ++ flagged in
      let from_owner = at + 1 in
      let from_group = from_owner + lines_if r.owner in
      let from_flags = from_group + lines_if r.group in
      let from_access = from_flags + lines_if r.flags in
      let from_default = from_access + length (entries r.access) in
      ap (reading records draft at) (apart_text r rest)
      ∙ (file_chunk records more draft at r (owner_text naming.user_name r.owner ++ grouping) closes is.path new
      ∙ (owner_chunk more at from_owner r r.owner grouping is.owner
      ∙ (group_chunk more at from_group r r.owner r.group flagged is.group
      ∙ (flags_chunk more at from_flags r r.owner r.group r.flags listing is.flags
      ∙ (access_chunk more at from_access r (maps.get r.access Mask) [] (entries r.access) ending
      (recursion_from_All (λ (e : Entry). id_of e.key < nobody) (entries r.access) is.access.ids) is.access.named
      ∙ (defaults_chunk more at from_default r (entries r.access) r.dacl (10 ∷ rest) is.dacl
      ∙ (read_one_item more (Some (all_lines at r)) (Some (all_lines at r)) (from_default + default_count r.dacl) [] rest lines.Nothing [] None tt refl refl refl refl
      ∙ ap (λ (n : ℕ). reading more (Some (all_lines at r)) n rest) (omega arith))))))))

  any_paths : (path : List (List ℕ)) (records : List DumpRecord) → is_repeated records path ≡ list_any (same_path path) (paths records)
  any_paths path [] = refl
  any_paths path (r ∷ rs) = ap (λ b. same_path path r.path || b) (any_paths path rs)

  all_again : (records more : List DumpRecord) (draft : Option RecordDraft) (at : ℕ) (rs : List DumpRecord) → close dump_use records draft ≡ Ok more
      → AllByRecursion Readable rs → AreApart (paths more) (paths rs)
      → reading records draft at (dump_text naming rs) ≡ Ok (more ++ placed at rs)
  all_again records more draft at [] closes are apart = closes ∙ ap (λ (l : List DumpRecord). Ok l) (sym (append-nil more))
  all_again records more draft at (r ∷ rs) closes are apart =
      let placed_r : DumpRecord = record r { at = at } in
      record_chunk records more draft at r (dump_text naming rs) closes (any_paths r.path more ∙ apart.0) are.0
      ∙ (all_again more (more ++ placed_r ∷ []) (Some (all_lines at r)) (at + line_count r) rs (closed more r at are.0) are.1
      (subst (λ ps. AreApart ps (paths rs)) (sym (map-append (λ (s : DumpRecord). s.path) more (placed_r ∷ []))) apart.1)
      ∙ ap (λ (l : List DumpRecord). Ok l) (append_assoc more (placed_r ∷ []) (placed (at + line_count r) rs)))

  -- the texts of records, one after another, are read as those records
  pub dump_again : (rs : List DumpRecord) → AllByRecursion Readable rs → AreApart [] (paths rs) → dump_of naming dump_use (dump_text naming rs) ≡ Ok (placed 1 rs)
  dump_again rs are apart =
      sym (streamed_by_groups begins open_record (line_in naming) (close dump_use) [] None (lines_of (dump_text naming rs)))
      ∙ all_again [] [] None 1 rs refl are apart
