-- A dump whose records have paths that are apart is read alike whether paths are watched or not.
use Rattle.std.proofs.Common.{◌≡◌, ℕ, Bool, true, false, cond, List, [], ◌∷◌, ◌++◌, Option, Some, None, Result, Ok, Err, refl, sym, ap, subst, ◌∙◌, append_assoc}
use Rattle.std.specs.Prelude.{◌||◌, if◌then◌else◌, ok_or}
use Rattle.std.specs.List.{AllByRecursion, IsDistinct}
use Rattle.std.proofs.lemmas.List.{append-nil, map-append}
use Rattle.std.proofs.lemmas.Map.Keys.{IsDistinct-head, IsDistinct-tail}
use Rattle.acl_names.specs.Paths.{path_of}
use Rattle.acl_text.specs.Naming.{Naming}
use Rattle.acl_text.specs.declared.fault.FaultKind.{FaultKind}
use Rattle.acl_text.specs.declared.fault.FaultKind.TheVariants as kinds
use Rattle.acl_text.specs.declared.fault.TextFault.{TextFault}
use Rattle.acl_text.specs.declared.fault.Which.TheVariants.{Access}
use Rattle.acl_text.specs.InTurn.{at_place}
use Rattle.acl_text.specs.Results.{◌>>=◌}
use Rattle.acl_text.specs.declared.record.DumpUse.{DumpUse}
use Rattle.acl_text.specs.declared.record.DumpRecord.{DumpRecord}
use Rattle.acl_text.specs.declared.draft.RecordDraft.{RecordDraft}
use Rattle.acl_text.specs.declared.item.Item.{Item}
use Rattle.acl_text.specs.declared.item.Item.TheVariants as item
use Rattle.acl_text.specs.Groups.{streamed}
use Rattle.acl_text.specs.Lines.{content_of}
use Rattle.acl_text.specs.Records.{Numbered, same_path, is_repeated, may_head, with_entry, with_item, add, item_of, opened_draft, open_record, begins, list_of}
use Rattle.acl_text.specs.Records.{default_list_of, has_headers, whole, record_of, close, judged, line_in, lines_of, dump_of}
use Rattle.acl_text.specs.Watched as watched
use Rattle.acl_text.specs.RoundTrips.{paths}
use Rattle.acl_text.proofs.ApartPaths.{flips}
use Rattle.acl_text.proofs.Streams.{streamed_by_groups}

-- ---- paths that are apart

middle : {X : Type 0} (P : X → Type 0) (xs : List X) (x : X) (rest : List X) → AllByRecursion P ((xs ++ x ∷ []) ++ rest) → P x
middle P [] x rest h = h.0
middle P (y ∷ ys) x rest h = middle P ys x rest h.1

not_repeated : (records : List DumpRecord) (path : List (List ℕ)) (rest : List (List (List ℕ))) → IsDistinct same_path ((paths records ++ path ∷ []) ++ rest) → is_repeated records path ≡ false
not_repeated [] path rest apart = refl
not_repeated (r ∷ rs) path rest apart =
    let here = middle (λ p. same_path r.path p ≡ false) (paths rs) path rest (IsDistinct-head same_path r.path ((paths rs ++ path ∷ []) ++ rest) apart) in
    let later = not_repeated rs path rest (IsDistinct-tail same_path r.path ((paths rs ++ path ∷ []) ++ rest) apart) in
    ap (λ b. b || is_repeated rs path) (flips path r.path ∙ here) ∙ later

not_among : (all : List (List (List ℕ))) (records : List DumpRecord) (path : List (List ℕ)) (rest : List (List (List ℕ)))
    → all ≡ (paths records ++ path ∷ []) ++ rest → IsDistinct same_path all → is_repeated records path ≡ false
not_among all records path rest parts apart = not_repeated records path rest (subst (IsDistinct same_path) parts apart)

-- ---- what a value is made of

pub next-ok : {A B : Type 0} (r : Result A TextFault) (f : A → Result B TextFault) (y : B) → (r >>= f) ≡ Ok y → (x : A) × ((r ≡ Ok x) × (f x ≡ Ok y))
next-ok (Ok x) f y e = (x, (refl, e))
next-ok (Err fault) f y e = absurd cc

pub at_place-ok : {S T : Type 0} (at : ℕ) (r : Result S FaultKind) (more : S → Result T TextFault) (y : T) → at_place at r more ≡ Ok y → (x : S) × ((r ≡ Ok x) × (more x ≡ Ok y))
at_place-ok at (Ok x) more y e = (x, (refl, e))
at_place-ok at (Err kind) more y e = absurd cc

pub bind-ok : {A B : Type 0} (r : Result A FaultKind) (f : A → Result B FaultKind) (y : B) → (r >>= f) ≡ Ok y → (x : A) × ((r ≡ Ok x) × (f x ≡ Ok y))
bind-ok (Ok x) f y e = (x, (refl, e))
bind-ok (Err kind) f y e = absurd cc

pub ok-is : {A F : Type 0} (x y : A) → (let r : Result A F = Ok x in r ≡ Ok y) → x ≡ y
ok-is x y e = cc

abbrev drafted : Option RecordDraft → List (List (List ℕ))
drafted None = []
drafted (Some draft) = draft.path ∷ []

-- ---- what is read keeps the path of its record

list_path : (draft : RecordDraft) (r : DumpRecord) → whole draft ≡ Ok r → r.path ≡ draft.path
list_path draft r e =
    let access = bind-ok (list_of Access draft.access) _ r e in
    let dacl = bind-ok (default_list_of draft.dacl) _ r access.1.1 in
    sym (ap (λ (s : DumpRecord). s.path) (ok-is _ r dacl.1.1))

record_path : (b : Bool) (draft : RecordDraft) (r : DumpRecord) → (if b then whole draft else Err kinds.MissingHeader) ≡ Ok r → r.path ≡ draft.path
record_path true draft r e = list_path draft r e
record_path false draft r e = absurd cc

closed_paths : (dump_use : DumpUse) (records : List DumpRecord) (draft : Option RecordDraft) (more : List DumpRecord) → close dump_use records draft ≡ Ok more
    → paths more ≡ paths records ++ drafted draft
closed_paths dump_use records None more e = ap paths (sym (ok-is records more e)) ∙ sym (append-nil (paths records))
closed_paths dump_use records (Some draft) more e =
    let s = at_place-ok draft.at (record_of dump_use draft) (λ r. Ok (records ++ r ∷ [])) more e in
    ap paths (sym (ok-is (records ++ s.0 ∷ []) more s.1.1))
    ∙ map-append (λ (r : DumpRecord). r.path) records (s.0 ∷ [])
    ∙ ap (λ p. paths records ++ p ∷ []) (record_path (has_headers dump_use draft) draft s.0 s.1.0)

headed_path : (b : Bool) (draft new more : RecordDraft) → new.path ≡ draft.path → (if b then Ok new else Err kinds.BadHeader) ≡ Ok more → more.path ≡ draft.path
headed_path true draft new more same e = sym (ap (λ (d : RecordDraft). d.path) (ok-is new more e)) ∙ same
headed_path false draft new more same e = absurd cc

item_path : (s : Item) (draft more : RecordDraft) → with_item s draft ≡ Ok more → more.path ≡ draft.path
item_path (item.Owner id) draft more e = headed_path (may_head draft.owner draft) draft (record draft { owner = Some id }) more refl e
item_path (item.OwningGroup id) draft more e = headed_path (may_head draft.group draft) draft (record draft { group = Some id }) more refl e
item_path (item.Flags flags) draft more e = headed_path (may_head draft.flags draft) draft (record draft { flags = Some flags }) more refl e
item_path (item.Entry true entry) draft more e = sym (ap (λ (d : RecordDraft). d.path) (ok-is (with_entry true entry draft) more e))
item_path (item.Entry false entry) draft more e = sym (ap (λ (d : RecordDraft). d.path) (ok-is (with_entry false entry draft) more e))

added_path : (s : Option Item) (draft more : Option RecordDraft) → add s draft ≡ Ok more → drafted more ≡ drafted draft
added_path None draft more e = ap drafted (sym (ok-is draft more e))
added_path (Some s) None more e = absurd cc
added_path (Some s) (Some draft) more e =
    let w = bind-ok (with_item s draft) (λ d. Ok (Some d)) more e in
    ap drafted (sym (ok-is (Some w.0) more w.1.1)) ∙ ap (λ p. p ∷ []) (item_path s draft w.0 w.1.0)

-- ---- a record that begins

opened_apart : (records : List DumpRecord) (at : ℕ) (value : List ℕ) (draft : RecordDraft) → watched.opened_draft false records at value ≡ Ok draft
    → is_repeated records draft.path ≡ false → watched.opened_draft true records at value ≡ Ok draft
opened_apart records at [] draft e new = absurd cc
opened_apart records at (b ∷ bs) draft e new =
    let s = bind-ok (ok_or (path_of (b ∷ bs)) kinds.BadPath) _ draft e in
    let made = ok-is _ draft s.1.1 in
    let fresh = ap (λ (d : RecordDraft). is_repeated records d.path) made ∙ new in
    rw (s.1.0, fresh) (ap (λ d. Ok d) made)

open_apart : (records : List DumpRecord) (l : Numbered) (new : Option RecordDraft) → watched.open_record false records l ≡ Ok new
    → (path : List (List ℕ)) × ((drafted new ≡ path ∷ []) × (is_repeated records path ≡ false → watched.open_record true records l ≡ Ok new))
open_apart records l new e =
    let s = at_place-ok l.0 (watched.opened_draft false records l.0 (content_of l.1).1) (λ d. Ok (Some d)) new e in
    let made = ok-is (Some s.0) new s.1.1 in
    (s.0.path, (ap drafted (sym made), λ fresh. ap (λ r. at_place l.0 r (λ d. Ok (Some d))) (opened_apart records l.0 (content_of l.1).1 s.0 s.1.0 fresh) ∙ ap (λ d. Ok d) made))

-- ---- the stream

same_opened : (records : List DumpRecord) (at : ℕ) (value : List ℕ) → watched.opened_draft true records at value ≡ opened_draft records at value
same_opened records at [] = refl
same_opened records at (b ∷ bs) = refl

same_open : watched.open_record true ≡ open_record
same_open = λ i records l. at_place l.0 (same_opened records l.0 (content_of l.1).1 i) (λ draft. Ok (Some draft))

module _ (naming : Naming) (dump_use : DumpUse) where
  abbrev stream : Bool → List DumpRecord → Option RecordDraft → List Numbered → Result (List DumpRecord) TextFault
  stream are_watched records draft ls = watched.stream naming are_watched dump_use records draft ls

  abbrev step_by : Bool → Bool → List DumpRecord → Option RecordDraft → Numbered → Result (List DumpRecord × Option RecordDraft) TextFault
  step_by are_watched b records draft l =
      cond b (close dump_use records draft >>= (λ more. watched.open_record are_watched more l >>= (λ new. Ok (more, new)))) (line_in naming draft l >>= (λ new. Ok (records, new)))

  line_path : (draft : Option RecordDraft) (l : Numbered) (more : Option RecordDraft) → line_in naming draft l ≡ Ok more → drafted more ≡ drafted draft
  line_path draft l more e =
      let s = at_place-ok l.0 (judged naming draft l) (λ new. Ok new) more e in
      let w = bind-ok (item_of naming l.0 (content_of l.1).0 (content_of l.1).1) (λ s. add s draft) s.0 s.1.0 in
      ap drafted (sym (ok-is s.0 more s.1.1)) ∙ added_path w.0 draft s.0 w.1.1

  -- the paths of all records begin with those that were read
  abbrev Continues : List DumpRecord → Option RecordDraft → List DumpRecord → Type 0
  Continues records draft all = (rest : List (List (List ℕ))) × (paths all ≡ (paths records ++ drafted draft) ++ rest)

  middle_is : {X : Type 0} (all front a b rest : List X) → all ≡ (front ++ a) ++ rest → a ≡ b → all ≡ (front ++ b) ++ rest
  middle_is all front a b rest e same = e ∙ ap (λ d. (front ++ d) ++ rest) same

  further : {X : Type 0} (all more new rest front : List X) → all ≡ (more ++ new) ++ rest → more ≡ front → all ≡ front ++ (new ++ rest)
  further all more new rest front e same = e ∙ (append_assoc more new rest ∙ ap (λ p. p ++ (new ++ rest)) same)

  continues_by : (b : Bool) (l : Numbered) (ls : List Numbered) (records : List DumpRecord) (draft : Option RecordDraft) (all : List DumpRecord)
      → (step_by false b records draft l >>= (λ s. stream false s.0 s.1 ls)) ≡ Ok all
      → ((more : List DumpRecord) (new : Option RecordDraft) → stream false more new ls ≡ Ok all → Continues more new all) → Continues records draft all
  continues_by true l ls records draft all e again =
      let s = next-ok (step_by false true records draft l) (λ s. stream false s.0 s.1 ls) all e in
      let c = next-ok (close dump_use records draft) _ s.0 s.1.0 in
      let n = next-ok (watched.open_record false c.0 l) _ s.0 c.1.1 in
      let pair = ok-is (c.0, n.0) s.0 n.1.1 in
      let tail = again c.0 n.0 (ap (λ (p : List DumpRecord × Option RecordDraft). stream false p.0 p.1 ls) pair ∙ s.1.1) in
      (drafted n.0 ++ tail.0, further (paths all) (paths c.0) (drafted n.0) tail.0 (paths records ++ drafted draft) tail.1 (closed_paths dump_use records draft c.0 c.1.0))
  continues_by false l ls records draft all e again =
      let s = next-ok (step_by false false records draft l) (λ s. stream false s.0 s.1 ls) all e in
      let n = next-ok (line_in naming draft l) _ s.0 s.1.0 in
      let pair = ok-is (records, n.0) s.0 n.1.1 in
      let tail = again records n.0 (ap (λ (p : List DumpRecord × Option RecordDraft). stream false p.0 p.1 ls) pair ∙ s.1.1) in
      (tail.0, middle_is (paths all) (paths records) (drafted n.0) (drafted draft) tail.0 tail.1 (line_path draft l n.0 n.1.0))

  continues : (ls : List Numbered) (records : List DumpRecord) (draft : Option RecordDraft) (all : List DumpRecord) → stream false records draft ls ≡ Ok all → Continues records draft all
  continues [] records draft all e = ([], closed_paths dump_use records draft all e ∙ sym (append-nil (paths records ++ drafted draft)))
  continues (l ∷ ls) records draft all e = continues_by (begins l) l ls records draft all e (λ more new f. continues ls more new all f)

  watched_by : (b : Bool) (l : Numbered) (ls : List Numbered) (records : List DumpRecord) (draft : Option RecordDraft) (all : List DumpRecord)
      → IsDistinct same_path (paths all) → (step_by false b records draft l >>= (λ s. stream false s.0 s.1 ls)) ≡ Ok all
      → ((more : List DumpRecord) (new : Option RecordDraft) → stream false more new ls ≡ Ok all → stream true more new ls ≡ Ok all)
      → (step_by true b records draft l >>= (λ s. stream true s.0 s.1 ls)) ≡ Ok all
  watched_by true l ls records draft all apart e again =
      let s = next-ok (step_by false true records draft l) (λ s. stream false s.0 s.1 ls) all e in
      let c = next-ok (close dump_use records draft) _ s.0 s.1.0 in
      let n = next-ok (watched.open_record false c.0 l) _ s.0 c.1.1 in
      let pair = ok-is (c.0, n.0) s.0 n.1.1 in
      let f = ap (λ (p : List DumpRecord × Option RecordDraft). stream false p.0 p.1 ls) pair ∙ s.1.1 in
      let tail = continues ls c.0 n.0 all f in
      let one = open_apart c.0 l n.0 n.1.0 in
      let new = not_among (paths all) c.0 one.0 tail.0 (middle_is (paths all) (paths c.0) (drafted n.0) (one.0 ∷ []) tail.0 tail.1 one.1.0) apart in
      rw (c.1.0, one.1.1 new) (again c.0 n.0 f)
  watched_by false l ls records draft all apart e again =
      let s = next-ok (step_by false false records draft l) (λ s. stream false s.0 s.1 ls) all e in
      let n = next-ok (line_in naming draft l) _ s.0 s.1.0 in
      let pair = ok-is (records, n.0) s.0 n.1.1 in
      rw (n.1.0) (again records n.0 (ap (λ (p : List DumpRecord × Option RecordDraft). stream false p.0 p.1 ls) pair ∙ s.1.1))

  pub watched_alike : (ls : List Numbered) (records : List DumpRecord) (draft : Option RecordDraft) (all : List DumpRecord)
      → stream false records draft ls ≡ Ok all → IsDistinct same_path (paths all) → stream true records draft ls ≡ Ok all
  watched_alike [] records draft all e apart = e
  watched_alike (l ∷ ls) records draft all e apart = watched_by (begins l) l ls records draft all apart e (λ more new f. watched_alike ls more new all f apart)

  -- a dump is read by groups as it is line by line, where paths are watched
  pub watched_dump : (bytes : List ℕ) → stream true [] None (lines_of bytes) ≡ dump_of naming dump_use bytes
  watched_dump bytes =
      ap (λ first. streamed begins first (line_in naming) (close dump_use) [] None (lines_of bytes)) same_open
      ∙ streamed_by_groups begins open_record (line_in naming) (close dump_use) [] None (lines_of bytes)
