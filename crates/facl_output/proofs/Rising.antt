-- Paths in path order: each is apart from those before it, and they stay as they are when they are put in order.
use Rattle.std.proofs.Common.{◌≡◌, false, ◌||◌, List, [], ◌∷◌, ◌++◌, map, Less, refl, sym, ap, subst, ◌∙◌, append_assoc}
use Rattle.std.specs.Prelude.{fold}
use Rattle.std.specs.List.{list_any, AllByRecursion}
use Rattle.std.specs.Ordering.{is_eq}
use Rattle.std.specs.FinMap.{is_sorted}
use Rattle.std.specs.FinMap.Entries.{below_all, by_order}
use Rattle.std.proofs.lemmas.Bool.{and_parts}
use Rattle.std.proofs.lemmas.List.{map-append, append-nil}
use Rattle.acl_names.specs.Paths.{path_cmp, PathOf}
use Rattle.acl_edit.specs.declared.node.Node.{Node}
use Rattle.acl_text.specs.declared.record.DumpRecord.{DumpRecord}
use Rattle.acl_text.specs.Records.{same_path}
use Rattle.acl_text.specs.RoundTrips.{AreApart, paths}
use Rattle.acl_tree.specs.Files.{Files}
use Rattle.path_map.specs.Entries.{IsInOrder}
use Rattle.acl_tree.specs.Loading.{insert_record, in_path_order}
use Rattle.acl_tree.proofs.Follows.{before_it}
use Rattle.path_map.proofs.Places.{above}

-- each of them comes before the path
abbrev pub Before : List PathOf → PathOf → Type 0
Before ps p = AllByRecursion (λ q. path_cmp q p ≡ Less) ps

-- the paths rise, and come after others
abbrev pub Rising : List PathOf → List PathOf → Type 0
Rising before [] = Unit {0}
Rising before (p ∷ ps) = Before before p × Rising (before ++ p ∷ []) ps

abbrev pub paths_of : Files → List PathOf
paths_of es = map (λ e. e.0) es

all_before : (pre : Files) (e : PathOf × Node) (es : Files) → IsInOrder (pre ++ e ∷ es) → Before (paths_of pre) e.0
all_before [] e es order = tt
all_before (d ∷ pre) e es order =
    let parts = and_parts (below_all path_cmp d.0 (pre ++ e ∷ es)) (is_sorted path_cmp (pre ++ e ∷ es)) order in
    (before_it d.0 pre e es parts.0, all_before pre e es parts.1)

rising_after : (pre es : Files) → IsInOrder (pre ++ es) → Rising (paths_of pre) (paths_of es)
rising_after pre [] order = tt
rising_after pre (e ∷ es) order = (
  all_before pre e es order,
  subst (λ ps. Rising ps (paths_of es)) (map-append (λ (e : PathOf × Node). e.0) pre (e ∷ []))
      (rising_after (pre ++ e ∷ []) es (subst IsInOrder (sym (append_assoc pre (e ∷ []) es)) order)),
)

-- the paths of files in path order rise
pub rising : (es : Files) → IsInOrder es → Rising [] (paths_of es)
rising es order = rising_after [] es order

not_same : (p : PathOf) (ps : List PathOf) → Before ps p → list_any (same_path p) ps ≡ false
not_same p [] h = refl
not_same p (q ∷ ps) h = ap (λ o. is_eq o || list_any (same_path p) ps) (above q p h.0) ∙ not_same p ps h.1

-- none is there twice
pub apart : (before ps : List PathOf) → Rising before ps → AreApart before ps
apart before [] h = tt
apart before (p ∷ ps) h = (not_same p before h.0, apart (before ++ p ∷ []) ps h.1)

insert_last : (r : DumpRecord) (done : List DumpRecord) → Before (paths done) r.path → insert_record r done ≡ done ++ r ∷ []
insert_last r [] h = refl
insert_last r (s ∷ done) h = ap (λ o. by_order o (r ∷ s ∷ done) (r ∷ done) (s ∷ insert_record r done)) (above s.path r.path h.0) ∙ ap (λ (l : List DumpRecord). s ∷ l) (insert_last r done h.1)

fold_ordered : (done rs : List DumpRecord) → Rising (paths done) (paths rs) → fold (λ sorted r. insert_record r sorted) done rs ≡ done ++ rs
fold_ordered done [] h = sym (append-nil done)
fold_ordered done (r ∷ rs) h =
    ap (λ (l : List DumpRecord). fold (λ sorted r. insert_record r sorted) l rs) (insert_last r done h.0)
    ∙ (fold_ordered (done ++ r ∷ []) rs (subst (λ ps. Rising ps (paths rs)) (sym (map-append (λ (s : DumpRecord). s.path) done (r ∷ []))) h.1)
    ∙ append_assoc done (r ∷ []) rs)

-- records whose paths rise stay as they are
pub in_order_already : (rs : List DumpRecord) → Rising [] (paths rs) → in_path_order rs ≡ rs
in_order_already rs h = fold_ordered [] rs h
