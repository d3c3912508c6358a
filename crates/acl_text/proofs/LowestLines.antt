-- The fault of a line is the lowest that it has.
use Rattle.std.proofs.Common.{◌≡◌, ℕ, ◌≤◌, Bool, true, false, List, [], ◌∷◌, map, Option, Some, None, is_some, Result, Ok, Err, refl, sym, ap, ◌∙◌, arith, inl, inr}
use Rattle.std.specs.Prelude.{◌⊎◌, not, if◌then◌else◌, ok_or}
use Rattle.std.specs.List.{Contains}
use Rattle.std.specs.Ordering.{is_eq}
use Rattle.std.proofs.lemmas.Bool.{cases_Bool, or_left, or_right}
use Rattle.std.proofs.lemmas.Cmp.{tied_itself}
use Rattle.std.proofs.lemmas.List.Elements.{Contains-append_left, Contains-append_right, Contains-append_cases, Contains-push, Contains-push_cases}
use Rattle.acl_names.specs.Paths.{path_of, path_cmp}
use Rattle.acl_names.proofs.PathOrder.{path_total, exact_paths}
use Rattle.acl_names.proofs.Basics.{is_equal}
use Rattle.acl_text.specs.Naming.{Naming}
use Rattle.acl_text.specs.declared.fault.FaultKind.{FaultKind}
use Rattle.acl_text.specs.declared.fault.FaultKind.TheVariants as kinds
use Rattle.acl_text.specs.Entries.{entry_of}
use Rattle.acl_text.specs.Fields.{default_of, entry_fields}
use Rattle.acl_text.specs.Words.{word_id}
use Rattle.acl_text.specs.Lowest.{number, ReportsLowest, EntryHas}
use Rattle.acl_text.proofs.Lowest.{alone, in_turn, made, ok_or-kind, fields-kind, entry_lowest, ok_or-none, ok_or-some}
use Rattle.acl_text.specs.declared.line.LineKind.{LineKind}
use Rattle.acl_text.specs.declared.line.LineKind.TheVariants.{Nothing, File, Owner, OwningGroup, Flags, Entry}
use Rattle.acl_text.specs.declared.draft.RecordDraft.{RecordDraft}
use Rattle.acl_text.specs.declared.record.DumpRecord.{DumpRecord}
use Rattle.acl_text.specs.declared.item.Item.{Item}
use Rattle.acl_text.specs.declared.item.Item.TheVariants as item
use Rattle.acl_text.specs.Lines.{content_of}
use Rattle.acl_text.specs.Records.{Numbered, rules, named, flags_of, entry_item, item_of, judged, may_head, add, same_path, is_repeated, ends_in_slash, opened_draft}
use Rattle.acl_text.specs.DumpLowest.{belongs, is_late, IsEmpty, NamesNobody, AreNoFlags, IsNoPath, IsOfAnEarlier, FileHas, HasInItself, HasNoRecord, IsLate, LineHas}
use Rattle.acl_text.specs.Results.{◌>>=◌}

-- ---- the value of a header

named_check : (look_up : List ℕ → Option ℕ) (unknown : FaultKind) (word : List ℕ) → ReportsLowest (λ k. IsEmpty word k ⊎ NamesNobody look_up unknown word k) (named look_up unknown word)
named_check look_up unknown [] =
    alone (λ k. IsEmpty [] k ⊎ NamesNobody look_up unknown [] k) (named look_up unknown [])
    (λ k h. elim h [ inl e ↦ ap (λ j. Err j) (sym e.is) | inr n ↦ let some = n.some in absurd (omega arith) ])
    (λ k e. let same : kinds.BadHeader ≡ k = cc in inl (record { is = sym same; empty = refl }))
named_check look_up unknown (b ∷ bs) =
    alone (λ k. IsEmpty (b ∷ bs) k ⊎ NamesNobody look_up unknown (b ∷ bs) k) (named look_up unknown (b ∷ bs))
    (λ k h. elim h [ inl e ↦ let no = e.empty in absurd cc | inr n ↦ ap (λ o. ok_or o unknown) n.nobody ∙ ap (λ j. Err j) (sym n.is) ])
    (λ k e. inr (record { is = sym (ok_or-kind (word_id look_up (b ∷ bs)) unknown k e); some = omega arith; nobody = ok_or-none (word_id look_up (b ∷ bs)) unknown k e }))

flags_check : (value : List ℕ) → ReportsLowest (AreNoFlags value) (ok_or (flags_of value) kinds.BadHeader)
flags_check value =
    alone (AreNoFlags value) (ok_or (flags_of value) kinds.BadHeader)
    (λ k h. ap (λ o. ok_or o kinds.BadHeader) h.no_flags ∙ ap (λ j. Err j) (sym h.is))
    (λ k e. record { is = sym (ok_or-kind (flags_of value) kinds.BadHeader k e); no_flags = ok_or-none (flags_of value) kinds.BadHeader k e })

-- ---- a `file:` line

same_is_true : (p : List (List ℕ)) → same_path p p ≡ true
same_is_true p = ap is_eq (tied_itself path_total p)

abbrev paths_of : List DumpRecord → List (List (List ℕ))
paths_of records = map (λ r. r.path) records

repeated_of : (records : List DumpRecord) (path : List (List ℕ)) → Contains (paths_of records) path → is_repeated records path ≡ true
repeated_of [] path h = absurd (omega (arith, h.1))
repeated_of (r ∷ rs) path h =
    elim (Contains-append_cases (r.path ∷ []) (paths_of rs) path h) [
      | inl here ↦ elim (Contains-push_cases [] r.path path here) [
        | inl none ↦ absurd (omega (arith, none.1))
        | inr same ↦ or_left (same_path path r.path) (is_repeated rs path) (ap (same_path path) same ∙ same_is_true path)
      ]
      | inr later ↦ or_right (same_path path r.path) (is_repeated rs path) (repeated_of rs path later)
    ]

of_repeated : (records : List DumpRecord) (path : List (List ℕ)) → is_repeated records path ≡ true → Contains (paths_of records) path
of_repeated [] path h = absurd cc
of_repeated (r ∷ rs) path h =
    elim (cases_Bool (same_path path r.path)) [
      | inl same ↦ Contains-append_left (r.path ∷ []) (paths_of rs) path (rw (exact_paths path r.path (is_equal (path_cmp path r.path) same)) (Contains-push [] r.path))
      | inr other ↦ Contains-append_right (r.path ∷ []) (paths_of rs) path (of_repeated rs path (rw other at h))
    ]

module _ (records : List DumpRecord) (at : ℕ) where
  abbrev opened_with : List ℕ → List (List ℕ) → RecordDraft
  opened_with value path = record { at = at; path = path; slash = ends_in_slash value; owner = None; group = None; flags = None; access = []; dacl = [] }

  no_path_check : (value : List ℕ) → ReportsLowest (IsNoPath records value) (ok_or (path_of value) kinds.BadPath)
  no_path_check value =
      alone (IsNoPath records value) (ok_or (path_of value) kinds.BadPath)
      (λ k h. ap (λ o. ok_or o kinds.BadPath) h.no_path ∙ ap (λ j. Err j) (sym h.is))
      (λ k e. record { is = sym (ok_or-kind (path_of value) kinds.BadPath k e); no_path = ok_or-none (path_of value) kinds.BadPath k e })

  new_check : (value : List ℕ) (path : List (List ℕ)) (draft : RecordDraft) → path_of value ≡ Some path
      → ReportsLowest (IsOfAnEarlier records value) (if is_repeated records path then Err kinds.RepeatedFile else Ok draft)
  new_check value path draft is_path =
      alone (IsOfAnEarlier records value) (if is_repeated records path then Err kinds.RepeatedFile else Ok draft)
      (λ k h.
      let both : Some h.path ≡ Some path = sym h.is_path ∙ is_path in
      let same : h.path ≡ path = cc in
      rw (repeated_of records path (rw same at h.earlier)) (ap (λ j. Err j) (sym h.is)))
      (λ k e.
      elim (cases_Bool (is_repeated records path)) [
        | inl again ↦ let found = rw again at e in let same : kinds.RepeatedFile ≡ k = cc in record { is = sym same; path = path; is_path = is_path; earlier = of_repeated records path again }
        | inr new ↦ let found = rw new at e in absurd cc
      ])

  abbrev NotEmptyHas : List ℕ → FaultKind → Type 0
  NotEmptyHas value k = IsNoPath records value k ⊎ IsOfAnEarlier records value k

  not_empty_check : (b : ℕ) (bs : List ℕ) → ReportsLowest (NotEmptyHas (b ∷ bs)) (opened_draft records at (b ∷ bs))
  not_empty_check b bs =
      in_turn (IsNoPath records (b ∷ bs)) (IsOfAnEarlier records (b ∷ bs)) (ok_or (path_of (b ∷ bs)) kinds.BadPath)
      (λ path. if is_repeated records path then Err kinds.RepeatedFile else Ok (opened_with (b ∷ bs) path))
      (λ j k h later. omega (arith, ap number h.is, ap number later.is)) (no_path_check (b ∷ bs))
      (λ path is. new_check (b ∷ bs) path (opened_with (b ∷ bs) path) (ok_or-some (path_of (b ∷ bs)) kinds.BadPath path is))

  file_kind : (value : List ℕ) (k : FaultKind) → FileHas records value k → 8 ≤ number k
  file_kind value k h =
      elim h [
        | inl e ↦ omega (arith, ap number e.is)
        | inr later ↦ elim later [
          | inl p ↦ omega (arith, ap number p.is)
          | inr r ↦ omega (arith, ap number r.is)
        ]
      ]

  pub file_lowest : (value : List ℕ) → ReportsLowest (FileHas records value) (opened_draft records at value)
  file_lowest [] = record {
    no_fault = λ x e k h. absurd cc;
    lowest = λ k e.
        let same : kinds.BadHeader ≡ k = cc in
        record { applies = inl (record { is = sym same; empty = refl }); least = λ j h. omega (arith, ap number same, file_kind [] j h) };
  }
  file_lowest (b ∷ bs) =
      let others = not_empty_check b bs in
      record {
        no_fault = λ x e k h. elim h [ inl a ↦ let no = a.empty in absurd cc | inr o ↦ others.no_fault x e k o ];
        lowest = λ k e.
            let low = others.lowest k e in
            record { applies = inr low.applies; least = λ j h. elim h [ inl a ↦ let no = a.empty in absurd cc | inr o ↦ low.least j o ] };
      }

-- ---- any other line

-- content that comes late
abbrev late : Option Item → RecordDraft → Bool
late None draft = false
late (Some (item.Owner id)) draft = not (may_head draft.owner draft)
late (Some (item.OwningGroup id)) draft = not (may_head draft.group draft)
late (Some (item.Flags flags)) draft = not (may_head draft.flags draft)
late (Some (item.Entry dflt entry)) draft = false

-- the content of a line of a kind
record IsOfKind (kind : LineKind) (s : Option Item) : Type 0 where
  lone : is_some s ≡ belongs kind
  late_is : (draft : RecordDraft) → late s draft ≡ is_late kind draft

reads_of_kind : {A : Type 0} (r : Result A FaultKind) (item_from : A → Item) (kind : LineKind) (s : Option Item)
    → ((x : A) → IsOfKind kind (Some (item_from x))) → (r >>= (λ x. Ok (Some (item_from x)))) ≡ Ok s → IsOfKind kind s
reads_of_kind (Ok x) item_from kind s is e = let same : Some (item_from x) ≡ s = cc in rw (← same) (is x)
reads_of_kind (Err j) item_from kind s is e = absurd cc

module _ (naming : Naming) (at : ℕ) where
  abbrev reads_as : LineKind → List ℕ → Result (Option Item) FaultKind
  reads_as kind value = item_of naming at kind value

  none_check : ReportsLowest (λ k. ⊥) (reads_as Nothing [])
  none_check = alone (λ k. ⊥) (reads_as Nothing []) (λ k h. absurd h) (λ k e. absurd cc)

  itself_check : (kind : LineKind) (value : List ℕ) → ReportsLowest (HasInItself naming kind value) (reads_as kind value)
  itself_check Nothing value = none_check
  itself_check File value = none_check
  itself_check Owner value = made (HasInItself naming Owner value) (named naming.user_id kinds.UnknownUser value) (λ id. Some (item.Owner id)) (named_check naming.user_id kinds.UnknownUser value)
  itself_check OwningGroup value = made (HasInItself naming OwningGroup value) (named naming.group_id kinds.UnknownGroup value)
      (λ id. Some (item.OwningGroup id)) (named_check naming.group_id kinds.UnknownGroup value)
  itself_check Flags value = made (HasInItself naming Flags value) (ok_or (flags_of value) kinds.BadHeader) (λ flags. Some (item.Flags flags)) (flags_check value)
  itself_check Entry value = made (EntryHas naming rules value) (entry_of naming rules at value) (λ spec. Some (entry_item spec)) (entry_lowest naming rules at value)

  -- the kinds that a line has in itself
  itself-kind : (kind : LineKind) (value : List ℕ) (k : FaultKind) → HasInItself naming kind value k → number k ≤ 8
  itself-kind Nothing value k h = absurd h
  itself-kind File value k h = absurd h
  itself-kind Owner value k h = elim h [ inl e ↦ omega (arith, ap number e.is) | inr n ↦ omega (arith, ap number n.is) ]
  itself-kind OwningGroup value k h = elim h [ inl e ↦ omega (arith, ap number e.is) | inr n ↦ omega (arith, ap number n.is) ]
  itself-kind Flags value k h = omega (arith, ap number h.is)
  itself-kind Entry value k h = let is = fields-kind naming rules (default_of (entry_fields value)) k h in omega (arith, is)

  of_kind : (kind : LineKind) (value : List ℕ) (s : Option Item) → reads_as kind value ≡ Ok s → IsOfKind kind s
  of_kind Nothing value s e = let same : None ≡ s = cc in rw (← same) (record { lone = refl; late_is = λ draft. refl })
  of_kind File value s e = let same : None ≡ s = cc in rw (← same) (record { lone = refl; late_is = λ draft. refl })
  of_kind Owner value s e = reads_of_kind (named naming.user_id kinds.UnknownUser value) (λ id. item.Owner id) Owner s (λ id. record { lone = refl; late_is = λ draft. refl }) e
  of_kind OwningGroup value s e = reads_of_kind (named naming.group_id kinds.UnknownGroup value) (λ id. item.OwningGroup id) OwningGroup s (λ id. record { lone = refl; late_is = λ draft. refl }) e
  of_kind Flags value s e = reads_of_kind (ok_or (flags_of value) kinds.BadHeader) (λ flags. item.Flags flags) Flags s (λ flags. record { lone = refl; late_is = λ draft. refl }) e
  of_kind Entry value s e = reads_of_kind (entry_of naming rules at value) entry_item Entry s (λ spec. record { lone = refl; late_is = λ draft. refl }) e

-- ---- the place of a line

refused : (b : Bool) (draft new : RecordDraft) → not b ≡ true → ((if b then Ok new else Err kinds.BadHeader) >>= (λ d. Ok (Some d))) ≡ Err kinds.BadHeader
refused true draft new is = absurd cc
refused false draft new is = refl

not_late : (b : Bool) (draft new : RecordDraft) (k : FaultKind) → ((if b then Ok new else Err kinds.BadHeader) >>= (λ d. Ok (Some d))) ≡ Err k → (k ≡ kinds.BadHeader) × (not b ≡ true)
not_late true draft new k e = absurd cc
not_late false draft new k e = (cc, refl)

is_refused : (s : Option Item) (draft : RecordDraft) → late s draft ≡ true → add s (Some draft) ≡ Err kinds.BadHeader
is_refused None draft is = absurd cc
is_refused (Some (item.Owner id)) draft is = refused (may_head draft.owner draft) draft _ is
is_refused (Some (item.OwningGroup id)) draft is = refused (may_head draft.group draft) draft _ is
is_refused (Some (item.Flags flags)) draft is = refused (may_head draft.flags draft) draft _ is
is_refused (Some (item.Entry dflt entry)) draft is = absurd cc

is_late_where : (s : Option Item) (draft : RecordDraft) (k : FaultKind) → add s (Some draft) ≡ Err k → (k ≡ kinds.BadHeader) × (late s draft ≡ true)
is_late_where None draft k e = absurd cc
is_late_where (Some (item.Owner id)) draft k e = not_late (may_head draft.owner draft) draft _ k e
is_late_where (Some (item.OwningGroup id)) draft k e = not_late (may_head draft.group draft) draft _ k e
is_late_where (Some (item.Flags flags)) draft k e = not_late (may_head draft.flags draft) draft _ k e
is_late_where (Some (item.Entry dflt entry)) draft k e = absurd cc

no_record : (s : Option Item) → is_some s ≡ true → add s None ≡ Err kinds.MissingHeader
no_record None is = absurd cc
no_record (Some x) is = refl

none_where : (s : Option Item) (k : FaultKind) → add s None ≡ Err k → (k ≡ kinds.MissingHeader) × (is_some s ≡ true)
none_where None k e = absurd cc
none_where (Some x) k e = (cc, refl)

module _ (naming : Naming) (draft : Option RecordDraft) (l : Numbered) where
  abbrev kind_of : LineKind
  kind_of = (content_of l.1).0

  abbrev Misplaced : FaultKind → Type 0
  Misplaced k = HasNoRecord naming draft l k ⊎ IsLate naming draft l k

  found : (s : Option Item) → IsOfKind kind_of s → (k : FaultKind) → Misplaced k → add s draft ≡ Err k
  found s is k misplaced =
      elim misplaced [
        | inl h ↦ ap (add s) h.none ∙ (no_record s (is.lone ∙ h.lone) ∙ ap (λ j. Err j) (sym h.is))
        | inr h ↦ ap (add s) h.opened_draft ∙ (is_refused s h.so_far (is.late_is h.so_far ∙ h.late) ∙ ap (λ j. Err j) (sym h.is))
      ]

  applies_to : (s : Option Item) → IsOfKind kind_of s → (d : Option RecordDraft) → draft ≡ d → (k : FaultKind) → add s d ≡ Err k → Misplaced k
  applies_to s is None none k e = let w = none_where s k e in inl (record { is = w.0; none = none; lone = sym is.lone ∙ w.1 })
  applies_to s is (Some d) opened_draft k e = let w = is_late_where s d k e in inr (record { is = w.0; so_far = d; opened_draft = opened_draft; late = sym (is.late_is d) ∙ w.1 })

  place_check : (s : Option Item) → IsOfKind kind_of s → ReportsLowest Misplaced (add s draft)
  place_check s is = alone Misplaced (add s draft) (found s is) (λ k e. applies_to s is draft refl k e)

  abbrev Itself : FaultKind → Type 0
  Itself k = HasInItself naming kind_of (content_of l.1).1 k

  below : (j k : FaultKind) → Itself j → Misplaced k → number j ≤ number k
  below j k h misplaced =
      let low = itself-kind naming l.0 kind_of (content_of l.1).1 j h in
      elim misplaced [
        | inl m ↦ omega (arith, low, ap number m.is)
        | inr m ↦ omega (arith, low, ap number m.is)
      ]

  pub line_lowest : ReportsLowest (LineHas naming draft l) (judged naming draft l)
  line_lowest =
      in_turn Itself Misplaced (item_of naming l.0 kind_of (content_of l.1).1) (λ s. add s draft) below (itself_check naming l.0 kind_of (content_of l.1).1)
      (λ s e. place_check s (of_kind naming l.0 kind_of (content_of l.1).1 s e))
