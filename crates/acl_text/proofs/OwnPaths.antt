-- The records of a dump have different paths: a record is opened only where no earlier record has its path.
use Rattle.std.proofs.Common.{◌≡◌, ℕ, List, [], ◌∷◌, ◌++◌, Bool, true, false, cond, not, Option, Some, None, Result, Ok, Err, refl, sym, ap, subst, ◌∙◌}
use Rattle.std.specs.Prelude.{IfOk, ◌||◌, ◌&&◌, ok_or}
use Rattle.std.proofs.lemmas.List.Folds.{list_any-append}
use Rattle.acl_entry.proofs.Basics.{first_false, second_false}
use Rattle.acl_names.specs.Paths.{path_of}
use Rattle.acl_names.proofs.Basics.{not_first, and_second}
use Rattle.acl_text.specs.Naming.{Naming}
use Rattle.acl_text.specs.declared.fault.FaultKind.{FaultKind}
use Rattle.acl_text.specs.declared.fault.FaultKind.TheVariants.{BadHeader, BadPath, MissingHeader, RepeatedFile}
use Rattle.acl_text.specs.declared.fault.TextFault.{TextFault}
use Rattle.acl_text.specs.declared.fault.Which.TheVariants.{Access}
use Rattle.acl_text.specs.InTurn.{at_place, Gives}
use Rattle.acl_text.specs.Results.{◌>>=◌}
use Rattle.acl_text.specs.declared.draft.RecordDraft.{RecordDraft}
use Rattle.acl_text.specs.declared.record.DumpRecord.{DumpRecord}
use Rattle.acl_text.specs.declared.record.DumpUse.{DumpUse}
use Rattle.acl_text.specs.declared.item.Item.{Item}
use Rattle.acl_text.specs.declared.item.Item.TheVariants as item
use Rattle.acl_text.specs.OwnPaths.{have_own_paths}
use Rattle.acl_text.proofs.Streams.{dump_stream, streamed_by_groups}
use Rattle.acl_text.specs.Lines.{content_of}
use Rattle.acl_text.specs.Records.{Numbered, same_path, is_repeated, ends_in_slash, opened_draft, open_record, begins, close, list_of, default_list_of, whole}
use Rattle.acl_text.specs.Records.{has_headers, record_of, with_item, may_head, add, item_of, judged, line_in, lines_of, dump_of}
use Rattle.acl_text.proofs.ApartPaths.{flips}

-- ---- what is true of the values of steps that may fail

pub bind_ok : {A B : Type 0} (m : Result A FaultKind) (f : A → Result B FaultKind) (Q : B → Type 0) → ((x : A) → IfOk (f x) Q) → IfOk (m >>= f) Q
bind_ok (Ok x) f Q h = h x
bind_ok (Err kind) f Q h = tt

at_place_ok : {A B : Type 0} (at : ℕ) (m : Result A FaultKind) (f : A → Result B TextFault) (P : A → Type 0) (Q : B → Type 0) → IfOk m P → ((x : A) → P x → IfOk (f x) Q) → IfOk (at_place at m f) Q
at_place_ok at (Ok x) f P Q p h = h x p
at_place_ok at (Err kind) f P Q p h = tt

next_ok : {A B : Type 0} (m : Result A TextFault) (f : A → Result B TextFault) (P : A → Type 0) (Q : B → Type 0) → IfOk m P → ((x : A) → P x → IfOk (f x) Q) → IfOk (m >>= f) Q
next_ok (Ok x) f P Q p h = h x p
next_ok (Err fault) f P Q p h = tt

pub given_ok : {X Y : Type 0} (view : X → Y) (r : Result X TextFault) (is : Result Y TextFault) (Q : Y → Type 0) → Gives view r is → IfOk is Q → IfOk r (λ x. Q (view x))
given_ok view (Ok x) is Q gives holds = subst (λ m. IfOk m Q) gives holds
given_ok view (Err fault) is Q gives holds = tt

-- ---- one record more

both : (a b : Bool) → not a ≡ true → b ≡ true → (not a && b) ≡ true
both false true x y = refl
both true b x y = x
both false false x y = y

neither : (a b : Bool) → a ≡ false → b ≡ false → not (a || (b || false)) ≡ true
neither false false x y = refl
neither true b x y = sym x
neither false true x y = sym y

one_more : (rs : List DumpRecord) (r : DumpRecord) → have_own_paths rs ≡ true → is_repeated rs r.path ≡ false → have_own_paths (rs ++ r ∷ []) ≡ true
one_more [] r apart fresh = refl
one_more (s ∷ rs) r apart fresh =
    both (is_repeated (rs ++ r ∷ []) s.path) (have_own_paths (rs ++ r ∷ []))
    (ap (λ b. not b) (list_any-append (λ (x : DumpRecord). same_path s.path x.path) rs (r ∷ []))
    ∙ neither (is_repeated rs s.path) (same_path s.path r.path) (not_first (is_repeated rs s.path) (have_own_paths rs) apart)
    (flips s.path r.path ∙ first_false (same_path r.path s.path) (is_repeated rs r.path) fresh))
    (one_more rs r (and_second (is_repeated rs s.path) (have_own_paths rs) apart) (second_false (same_path r.path s.path) (is_repeated rs r.path) fresh))

-- ---- the open record

abbrev pub Fresh : List DumpRecord → Option RecordDraft → Type 0
Fresh records None = Unit {0}
Fresh records (Some draft) = is_repeated records draft.path ≡ false

abbrev Keeps : RecordDraft → RecordDraft → Type 0
Keeps old new = new.path ≡ old.path

with_item_keeps : (s : Item) (draft : RecordDraft) → IfOk (with_item s draft) (Keeps draft)
with_item_keeps (item.Owner id) draft = elim (may_head draft.owner draft) as (λ b. IfOk (cond b (Ok (record draft { owner = Some id })) (Err BadHeader)) (Keeps draft)) [ true ↦ refl | false ↦ tt ]
with_item_keeps (item.OwningGroup id) draft =
    elim (may_head draft.group draft) as (λ b. IfOk (cond b (Ok (record draft { group = Some id })) (Err BadHeader)) (Keeps draft)) [ true ↦ refl | false ↦ tt ]
with_item_keeps (item.Flags flags) draft =
    elim (may_head draft.flags draft) as (λ b. IfOk (cond b (Ok (record draft { flags = Some flags })) (Err BadHeader)) (Keeps draft)) [ true ↦ refl | false ↦ tt ]
with_item_keeps (item.Entry true entry) draft = refl
with_item_keeps (item.Entry false entry) draft = refl

fresh_by : (records : List DumpRecord) (draft : RecordDraft) (r : Result RecordDraft FaultKind) → is_repeated records draft.path ≡ false → IfOk r (Keeps draft)
    → IfOk (r >>= λ new. Ok (Some new)) (Fresh records)
fresh_by records draft (Ok new) fresh keeps = ap (λ p. is_repeated records p) keeps ∙ fresh
fresh_by records draft (Err kind) fresh keeps = tt

add_fresh : (records : List DumpRecord) (s : Option Item) (draft : Option RecordDraft) → Fresh records draft → IfOk (add s draft) (Fresh records)
add_fresh records None draft fresh = fresh
add_fresh records (Some s) None fresh = tt
add_fresh records (Some s) (Some draft) fresh = fresh_by records draft (with_item s draft) fresh (with_item_keeps s draft)

opened_fresh : (records : List DumpRecord) (at : ℕ) (value : List ℕ) → IfOk (opened_draft records at value) (λ draft. is_repeated records draft.path ≡ false)
opened_fresh records at [] = tt
opened_fresh records at (b ∷ bs) = by_path (path_of (b ∷ bs))
  where
    draft_of : List (List ℕ) → RecordDraft
    draft_of path = record { at = at; path = path; slash = ends_in_slash (b ∷ bs); owner = None; group = None; flags = None; access = []; dacl = [] }

    by_test : (path : List (List ℕ)) (t : Bool) → is_repeated records path ≡ t → IfOk (cond t (Err RepeatedFile) (Ok (draft_of path))) (λ draft. is_repeated records draft.path ≡ false)
    by_test path true is = tt
    by_test path false is = is

    by_path : (o : Option (List (List ℕ))) → IfOk (ok_or o BadPath >>= λ path. cond (is_repeated records path) (Err RepeatedFile) (Ok (draft_of path)))
        (λ draft. is_repeated records draft.path ≡ false)
    by_path None = tt
    by_path (Some path) = by_test path (is_repeated records path) refl

open_fresh : (records : List DumpRecord) (l : Numbered) → IfOk (open_record records l) (Fresh records)
open_fresh records l = at_place_ok l.0 (opened_draft records l.0 (content_of l.1).1) (λ draft. Ok (Some draft))
    (λ draft. is_repeated records draft.path ≡ false) (Fresh records) (opened_fresh records l.0 (content_of l.1).1) (λ draft fresh. fresh)

-- ---- a record as a whole

whole_keeps : (draft : RecordDraft) → IfOk (whole draft) (λ r. r.path ≡ draft.path)
whole_keeps draft =
    bind_ok (list_of Access draft.access) _ (λ (r : DumpRecord). r.path ≡ draft.path) (λ access.
    bind_ok (default_list_of draft.dacl) _ (λ (r : DumpRecord). r.path ≡ draft.path) (λ dacl. refl))

record_keeps : (dump_use : DumpUse) (draft : RecordDraft) → IfOk (record_of dump_use draft) (λ r. r.path ≡ draft.path)
record_keeps dump_use draft = elim (has_headers dump_use draft) as (λ b. IfOk (cond b (whole draft) (Err MissingHeader)) (λ r. r.path ≡ draft.path)) [ true ↦ whole_keeps draft | false ↦ tt ]

abbrev Apart : List DumpRecord → Type 0
Apart records = have_own_paths records ≡ true

close_apart : (dump_use : DumpUse) (records : List DumpRecord) (draft : Option RecordDraft) → Apart records → Fresh records draft → IfOk (close dump_use records draft) Apart
close_apart dump_use records None apart fresh = apart
close_apart dump_use records (Some draft) apart fresh =
    at_place_ok draft.at (record_of dump_use draft) (λ r. Ok (records ++ r ∷ [])) (λ r. r.path ≡ draft.path) Apart (record_keeps dump_use draft)
    (λ r same. one_more records r apart (ap (λ p. is_repeated records p) same ∙ fresh))

-- ---- the whole dump

module _ (naming : Naming) (dump_use : DumpUse) where
  line_fresh : (records : List DumpRecord) (draft : Option RecordDraft) (l : Numbered) → Fresh records draft → IfOk (line_in naming draft l) (Fresh records)
  line_fresh records draft l fresh =
      at_place_ok l.0 (judged naming draft l) (λ new. Ok new) (Fresh records) (Fresh records)
      (bind_ok (item_of naming l.0 (content_of l.1).0 (content_of l.1).1) (λ s. add s draft) (Fresh records) (λ s. add_fresh records s draft fresh))
      (λ new fresh. fresh)

  abbrev Good : List DumpRecord × Option RecordDraft → Type 0
  Good s = Apart s.0 × Fresh s.0 s.1

  stepped_good : (records : List DumpRecord) (draft : Option RecordDraft) (l : Numbered) → Apart records → Fresh records draft
      → (b : Bool) → IfOk (cond b (close dump_use records draft >>= (λ more. open_record more l >>= (λ new. Ok (more, new)))) (line_in naming draft l >>= (λ more. Ok (records, more)))) Good
  stepped_good records draft l apart fresh true =
      next_ok (close dump_use records draft) _ Apart Good (close_apart dump_use records draft apart fresh) (λ more are.
      next_ok (open_record more l) _ (Fresh more) Good (open_fresh more l) (λ new is. (are, is)))
  stepped_good records draft l apart fresh false = next_ok (line_in naming draft l) _ (Fresh records) Good (line_fresh records draft l fresh) (λ more is. (apart, is))

  stream_apart : (records : List DumpRecord) (draft : Option RecordDraft) (lines : List Numbered) → Apart records → Fresh records draft → IfOk (dump_stream naming dump_use records draft lines) Apart
  stream_apart records draft [] apart fresh = close_apart dump_use records draft apart fresh
  stream_apart records draft (l ∷ ls) apart fresh =
      next_ok _ (λ s. dump_stream naming dump_use s.0 s.1 ls) Good Apart (stepped_good records draft l apart fresh (begins l)) (λ s good. stream_apart s.0 s.1 ls good.0 good.1)

  -- the records of a dump have different paths
  pub dump_apart : (bytes : List ℕ) → IfOk (dump_of naming dump_use bytes) Apart
  dump_apart bytes = subst (λ r. IfOk r Apart) (streamed_by_groups begins open_record (line_in naming) (close dump_use) [] None (lines_of bytes)) (stream_apart [] None (lines_of bytes) refl tt)
