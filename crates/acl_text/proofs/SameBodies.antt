-- What the body of a record says is the same for each file and at each place.
use Rattle.std.proofs.Common.{◌≡◌, ℕ, ◌+◌, Bool, true, false, List, [], ◌∷◌, ◌++◌, Option, Some, None, Result, Ok, Err, refl, sym, ap, subst, ◌∙◌}
use Rattle.std.specs.Prelude.{if◌then◌else◌, ok_or}
use Rattle.std.specs.List.{enumerate_from}
use Rattle.acl_names.specs.Pieces.{pieces}
use Rattle.acl_text.specs.Naming.{Naming}
use Rattle.acl_text.specs.declared.fault.FaultKind.{FaultKind}
use Rattle.acl_text.specs.declared.fault.FaultKind.TheVariants as kinds
use Rattle.acl_text.specs.declared.fault.TextFault.{TextFault}
use Rattle.acl_text.specs.declared.fault.Which.TheVariants.{Access}
use Rattle.acl_text.specs.InTurn.{at_place}
use Rattle.acl_text.specs.Results.{◌>>=◌}
use Rattle.acl_entry.specs.declared.entry.Key.{Key}
use Rattle.acl_text.specs.declared.entries.PermSpec.{PermSpec}
use Rattle.acl_text.specs.declared.entries.Spec.{Spec}
use Rattle.acl_text.specs.Fields.{default_of, entry_fields}
use Rattle.acl_text.specs.Entries.{entry_of, tagged, wanted_perms, key_of, allowed_key}
use Rattle.acl_names.specs.Paths.{path_of}
use Rattle.acl_text.specs.declared.line.LineKind.{LineKind}
use Rattle.acl_text.specs.declared.line.LineKind.TheVariants as lines
use Rattle.acl_text.specs.declared.record.DumpUse.{DumpUse}
use Rattle.acl_text.specs.declared.record.DumpUse.TheVariants.{Load, Restore}
use Rattle.acl_text.specs.declared.record.DumpRecord.{DumpRecord}
use Rattle.acl_text.specs.declared.draft.RecordDraft.{RecordDraft}
use Rattle.acl_text.specs.declared.item.Item.{Item}
use Rattle.acl_text.specs.declared.item.Item.TheVariants as item
use Rattle.acl_text.specs.Groups.{in_turn}
use Rattle.acl_text.specs.Lines.{content_of}
use Rattle.acl_text.specs.Records.{may_head, with_entry, with_item, add, item_of, rules, entry_item, list_of, default_list_of, has_headers, record_with}
use Rattle.acl_text.specs.Records.{ends_in_slash, whole, record_of, close, judged, line_in}
use Rattle.acl_text.specs.Watched as watched
use Rattle.acl_text.specs.SameBodies.{opened, moved, added, closed, Says}
use Rattle.acl_text.proofs.WatchedPaths.{next-ok, at_place-ok, bind-ok, ok-is}

abbrev spec_at : ℕ → Bool → Option PermSpec → Key → Result Spec FaultKind
spec_at at dflt perm key = Ok (record { at = at; dflt = dflt; key = key; perm = perm })

abbrev given : Spec → Result (Option Item) FaultKind
given spec = Ok (Some (entry_item spec))

then_same : {A B C F : Type 0} (r : Result A F) (f g : A → Result B F) (h : B → Result C F) → ((x : A) → (f x >>= h) ≡ (g x >>= h)) → ((r >>= f) >>= h) ≡ ((r >>= g) >>= h)
then_same (Ok x) f g h same = same x
then_same (Err e) f g h same = refl

-- what an entry gives a record does not depend on the entry's place
entry_at : (naming : Naming) (k n : ℕ) (value : List ℕ) → (entry_of naming rules k value >>= (λ spec. given spec)) ≡ (entry_of naming rules n value >>= (λ spec. given spec))
entry_at naming k n value =
    let fields = entry_fields value in
    then_same (ok_or (tagged rules (default_of fields)) kinds.BadTag) _ _ given
    (λ row. then_same (wanted_perms rules row.perms) _ _ given
    (λ perm. then_same (key_of naming row.tag row.word) _ _ given
    (λ key. then_same (allowed_key rules key) (spec_at k (default_of fields).0 perm) (spec_at n (default_of fields).0 perm) given (λ allowed. refl))))

-- the content of a line does not depend on its number
item_at : (naming : Naming) (k n : ℕ) (kind : LineKind) (value : List ℕ) → item_of naming k kind value ≡ item_of naming n kind value
item_at naming k n lines.Nothing value = refl
item_at naming k n lines.File value = refl
item_at naming k n lines.Owner value = refl
item_at naming k n lines.OwningGroup value = refl
item_at naming k n lines.Flags value = refl
item_at naming k n lines.Entry value = entry_at naming k n value

-- nor does what a line without a fault adds
pub line_at : (naming : Naming) (k n : ℕ) (line : List ℕ) (draft more : Option RecordDraft) → line_in naming draft (k, line) ≡ Ok more → line_in naming draft (n, line) ≡ Ok more
line_at naming k n line draft more e =
    let s = at_place-ok k (judged naming draft (k, line)) (λ new. Ok new) more e in
    ap (λ r. at_place n (r >>= (λ s. add s draft)) (λ new. Ok new)) (item_at naming n k (content_of line).0 (content_of line).1)
    ∙ (ap (λ r. at_place n r (λ new. Ok new)) s.1.0 ∙ ap (λ d. Ok d) (ok-is s.0 more s.1.1))

-- ---- the same draft of another file

module _ (at : ℕ) (path : List (List ℕ)) (slash : Bool) where
  abbrev draft_of : RecordDraft → RecordDraft
  draft_of d = record { at = at; path = path; slash = slash; owner = d.owner; group = d.group; flags = d.flags; access = d.access; dacl = d.dacl }

  abbrev draft_if : Option RecordDraft → Option RecordDraft
  draft_if None = None
  draft_if (Some d) = Some (draft_of d)

  headed : (b : Bool) (new more : RecordDraft) → (if b then Ok new else Err kinds.BadHeader) ≡ Ok more → (if b then Ok (draft_of new) else Err kinds.BadHeader) ≡ Ok (draft_of more)
  headed true new more e = ap (λ d. Ok (draft_of d)) (ok-is new more e)
  headed false new more e = absurd cc

  item_same : (s : Item) (draft more : RecordDraft) → with_item s draft ≡ Ok more → with_item s (draft_of draft) ≡ Ok (draft_of more)
  item_same (item.Owner id) draft more e = headed (may_head draft.owner draft) (record draft { owner = Some id }) more e
  item_same (item.OwningGroup id) draft more e = headed (may_head draft.group draft) (record draft { group = Some id }) more e
  item_same (item.Flags flags) draft more e = headed (may_head draft.flags draft) (record draft { flags = Some flags }) more e
  item_same (item.Entry true entry) draft more e = ap (λ d. Ok (draft_of d)) (ok-is (with_entry true entry draft) more e)
  item_same (item.Entry false entry) draft more e = ap (λ d. Ok (draft_of d)) (ok-is (with_entry false entry draft) more e)

  added_same : (s : Option Item) (draft more : Option RecordDraft) → add s draft ≡ Ok more → add s (draft_if draft) ≡ Ok (draft_if more)
  added_same None draft more e = ap (λ d. Ok (draft_if d)) (ok-is draft more e)
  added_same (Some s) None more e = absurd cc
  added_same (Some s) (Some draft) more e =
      let w = bind-ok (with_item s draft) (λ d. Ok (Some d)) more e in
      ap (λ r. r >>= (λ d. Ok (Some d))) (item_same s draft w.0 w.1.0) ∙ ap (λ d. Ok (draft_if d)) (ok-is (Some w.0) more w.1.1)

  module _ (naming : Naming) where
    line_same : (k n : ℕ) (line : List ℕ) (draft more : Option RecordDraft) → line_in naming draft (k, line) ≡ Ok more → line_in naming (draft_if draft) (n, line) ≡ Ok (draft_if more)
    line_same k n line draft more e =
        let s = at_place-ok k (judged naming draft (k, line)) (λ new. Ok new) more e in
        let w = bind-ok (item_of naming k (content_of line).0 (content_of line).1) (λ s. add s draft) s.0 s.1.0 in
        let item = sym (item_at naming k n (content_of line).0 (content_of line).1) ∙ w.1.0 in
        ap (λ r. at_place n (r >>= (λ s. add s (draft_if draft))) (λ new. Ok new)) item
        ∙ (ap (λ r. at_place n r (λ new. Ok new)) (added_same w.0 draft s.0 w.1.1)
        ∙ ap (λ d. Ok (draft_if d)) (ok-is s.0 more s.1.1))

    lines_same : (k n : ℕ) (ls : List (List ℕ)) (draft more : Option RecordDraft) → in_turn (line_in naming) draft (enumerate_from k ls) ≡ Ok more
        → in_turn (line_in naming) (draft_if draft) (enumerate_from n ls) ≡ Ok (draft_if more)
    lines_same k n [] draft more e = ap (λ d. Ok (draft_if d)) (ok-is draft more e)
    lines_same k n (l ∷ ls) draft more e =
        let s = next-ok (line_in naming draft (k, l)) (λ d. in_turn (line_in naming) d (enumerate_from (k + 1) ls)) more e in
        ap (λ r. r >>= (λ d. in_turn (line_in naming) d (enumerate_from (n + 1) ls))) (line_same k n l draft s.0 s.1.0)
        ∙ lines_same (k + 1) (n + 1) ls s.0 more s.1.1

    module _ (dump_use : DumpUse) where
      headers_same : (u : DumpUse) (draft : RecordDraft) → has_headers u (draft_of draft) ≡ has_headers u draft
      headers_same Load draft = refl
      headers_same Restore draft = refl

      whole_same : (draft : RecordDraft) (r : DumpRecord) → whole draft ≡ Ok r → whole (draft_of draft) ≡ Ok (moved at path slash r)
      whole_same draft r e =
          let access = bind-ok (list_of Access draft.access) _ r e in
          let dacl = bind-ok (default_list_of draft.dacl) _ r access.1.1 in
          ap (λ a. a >>= (λ access. default_list_of draft.dacl >>= (λ dacl. Ok (record_with (draft_of draft) access dacl)))) access.1.0
          ∙ (ap (λ d. d >>= (λ dacl. Ok (record_with (draft_of draft) access.0 dacl))) dacl.1.0
          ∙ ap (λ d. Ok (moved at path slash d)) (ok-is (record_with draft access.0 dacl.0) r dacl.1.1))

      record_by : (b : Bool) (draft : RecordDraft) (r : DumpRecord) → (if b then whole draft else Err kinds.MissingHeader) ≡ Ok r
          → (if b then whole (draft_of draft) else Err kinds.MissingHeader) ≡ Ok (moved at path slash r)
      record_by true draft r e = whole_same draft r e
      record_by false draft r e = absurd cc

      record_same : (draft : RecordDraft) (r : DumpRecord) → record_of dump_use draft ≡ Ok r → record_of dump_use (draft_of draft) ≡ Ok (moved at path slash r)
      record_same draft r e =
          ap (λ b. if b then whole (draft_of draft) else Err kinds.MissingHeader) (headers_same dump_use draft)
          ∙ record_by (has_headers dump_use draft) draft r e

      close_same : (records : List DumpRecord) (w : RecordDraft) (r : DumpRecord) → record_of dump_use w ≡ Ok r
          → close dump_use records (Some (draft_of w)) ≡ Ok (records ++ moved at path slash r ∷ [])
      close_same records w r e = ap (λ d. at_place at d (λ r. Ok (records ++ r ∷ []))) (record_same w r e)

module _ (naming : Naming) (dump_use : DumpUse) where
  -- what was read of a body with a record open
  abbrev Read : RecordDraft → ℕ → List ℕ → DumpRecord → Type 0
  Read draft from body r = (records : List DumpRecord) → closed naming dump_use records draft from body ≡ Ok (records ++ r ∷ [])

  read_as : (draft w : RecordDraft) (r : DumpRecord) (from : ℕ) (body : List ℕ) → added naming (Some draft) from body ≡ Ok (Some w) → record_of dump_use w ≡ Ok r → Read draft from body r
  read_as draft w r from body adds closes records =
      ap (λ d. d >>= (λ whole. close dump_use records whole)) adds
      ∙ ap (λ d. at_place w.at d (λ r. Ok (records ++ r ∷ []))) closes

  says_of : (at from : ℕ) (path : List (List ℕ)) (slash : Bool) (w : RecordDraft) (r : DumpRecord) (body : List ℕ)
      → added naming (Some (opened at path slash)) from body ≡ Ok (Some w) → record_of dump_use w ≡ Ok r → Says naming dump_use body r
  says_of at from path slash w r body adds closes records at' from' path' slash' =
      ap (λ d. d >>= (λ whole. close dump_use records whole)) (lines_same at' path' slash' naming from from' (pieces 10 body) (Some (opened at path slash)) (Some w) adds)
      ∙ close_same at' path' slash' naming dump_use records w r closes

  one_is : (a b : DumpRecord) → (let xs : Result (List DumpRecord) TextFault = Ok (a ∷ []) in xs ≡ Ok (b ∷ [])) → a ≡ b
  one_is a b e = cc

  -- a record that was read of a body says what the body says of each file
  pub read_says : (draft w : RecordDraft) (r : DumpRecord) (from : ℕ) (body : List ℕ) → draft ≡ opened draft.at draft.path draft.slash
      → added naming (Some draft) from body ≡ Ok (Some w) → record_of dump_use w ≡ Ok r → Says naming dump_use body r × (r ≡ moved draft.at draft.path draft.slash r)
  read_says draft w r from body new adds closes =
      let says = says_of draft.at from draft.path draft.slash w r body (ap (λ d. added naming (Some d) from body) (sym new) ∙ adds) closes in
      let here = sym (read_as draft w r from body adds closes []) ∙ (ap (λ d. closed naming dump_use [] d from body) new ∙ says [] draft.at from draft.path draft.slash) in
      (says, one_is r (moved draft.at draft.path draft.slash r) here)

  -- a body that says what a record says is read as that record of the open file
  pub closed_as : (draft : RecordDraft) (r : DumpRecord) (from : ℕ) (body : List ℕ) (records : List DumpRecord) → draft ≡ opened draft.at draft.path draft.slash
      → Says naming dump_use body r → closed naming dump_use records draft from body ≡ Ok (records ++ moved draft.at draft.path draft.slash r ∷ [])
  closed_as draft r from body records new says = ap (λ d. closed naming dump_use records d from body) new ∙ says records draft.at from draft.path draft.slash

-- a record that was opened has no line but its `file:` line
pub opened_is : (records : List DumpRecord) (at : ℕ) (value : List ℕ) (draft : RecordDraft) → watched.opened_draft false records at value ≡ Ok draft → draft ≡ opened draft.at draft.path draft.slash
opened_is records at [] draft e = absurd cc
opened_is records at (b ∷ bs) draft e =
    let s = bind-ok (ok_or (path_of (b ∷ bs)) kinds.BadPath) _ draft e in
    let is = ok-is (opened at s.0 (ends_in_slash (b ∷ bs))) draft s.1.1 in
    subst (λ d. d ≡ opened d.at d.path d.slash) is refl
