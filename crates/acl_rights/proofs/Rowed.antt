-- Rows by kinds: those of a state with what a line changes are those of the state after it.
use Rattle.std.proofs.Common.{◌≡◌, ℕ, ◌+◌, ◌<◌, ◌++◌, Bool, true, false, cond, not, Ordering, Less, Equal, Greater, List, [], ◌∷◌, length, map, filter, is_some}
use Rattle.std.proofs.Common.{Option, Some, None, set, refl, sym, ap, subst, ◌∙◌}
use Rattle.std.specs.Prelude.{◌&&◌, nat_lt, slice_get, option_map, count_by, if◌then◌else◌}
use Rattle.std.specs.Option.{option_map_or}
use Rattle.std.specs.List.{remove}
use Rattle.std.specs.Ordering.{is_eq}
use Rattle.std.specs.FinMap.{find}
use Rattle.std.proofs.lemmas.Bool.{lt-ltb}
use Rattle.std.proofs.lemmas.List.{length-map}
use Rattle.std.proofs.lemmas.List.Sums.{sum_by-cons}
use Rattle.acl_entry.specs.Mentions.{mentions, meets, AgreeOnMentions}
use Rattle.acl_entry.specs.Person.{Person}
use Rattle.acl_entry.specs.declared.label.Label.{Label}
use Rattle.acl_names.specs.Paths.{path_cmp, PathOf}
use Rattle.acl_edit.specs.declared.node.Node.{Node}
use Rattle.acl_people.specs.Moves.{MovesUser}
use Rattle.acl_tree.specs.Changed.{same_label, changed_between, gone_between}
use Rattle.acl_tree.specs.Files.{Files}
use Rattle.acl_tree.proofs.Changes.{label_is_same}
use Rattle.path_map.specs.Entries.{IsInOrder}
use Rattle.path_map.specs.Merged.{has, merged, put_all}
use Rattle.path_map.proofs.Rows.{rows_merged}
use Rattle.path_classes.specs.declared.label_row.LabelRow.{LabelRow}
use Rattle.path_classes.specs.KindRows.{RowedPaths, rows_at}
use Rattle.acl_rights.specs.KindRows.{label_row, rowed, rowed_labels, each_row, with_last, without_at, with_again, mentions_any}
use Rattle.path_classes.proofs.Maps.{map_twice}
use Rattle.acl_rights.specs.Rows.{Verdict, cells_of, rows_of}
use Rattle.acl_rights.specs.Groups.{mentions_one}
use Rattle.acl_rights.specs.Lines.{labels_of, HaveLabels}
use Rattle.acl_rights.proofs.Lines.{moved_in, cells_again, cells_kept, longer, remove_seen}

same_heads : {A : Type 0} {x y : A} {xs ys : List A} → x ∷ xs ≡ y ∷ ys → x ≡ y
same_heads e = cc

same_tails : {A : Type 0} {x y : A} {xs ys : List A} → x ∷ xs ≡ y ∷ ys → xs ≡ ys
same_tails e = cc

-- ---- rows and labels of files

module _ (V : Verdict) (us : List Person) where
  pub rowed_is : (es : RowedPaths) (fs : Files) → HaveLabels fs es → rows_at es ≡ rows_of V us fs → es ≡ rowed V us fs
  rowed_is [] [] labels rows = refl
  rowed_is [] (f ∷ fs) labels rows = cc
  rowed_is (e ∷ es) [] labels rows = cc
  rowed_is (e ∷ es) (f ∷ fs) labels rows =
      let path : e.0 ≡ f.0 = ap (λ x. x.0) (same_heads labels) in
      let label : e.1.label ≡ f.1.label = ap (λ x. x.1) (same_heads labels) in
      let row : e.1.row ≡ cells_of V us f.1 = ap (λ x. x.1) (same_heads rows) in
      λ i. (path i, record { label = label i; row = row i }) ∷ rowed_is es fs (same_tails labels) (same_tails rows) i

  pub rowed_rows : (es : RowedPaths) (fs : Files) → es ≡ rowed V us fs → rows_at es ≡ rows_of V us fs
  rowed_rows es fs are = ap rows_at are ∙ map_twice (λ (f : PathOf × Node). (f.0, label_row V us f.1.label)) (λ (e : PathOf × LabelRow). (e.0, e.1.row)) fs

  pub rowed_labels_are : (es : RowedPaths) (fs : Files) → es ≡ rowed V us fs → HaveLabels fs es
  rowed_labels_are es fs are = ap (map (λ (e : PathOf × LabelRow). (e.0, e.1.label))) are
      ∙ map_twice (λ (f : PathOf × Node). (f.0, label_row V us f.1.label)) (λ (e : PathOf × LabelRow). (e.0, e.1.label)) fs

  pub rowed_paths : (es : RowedPaths) (fs : Files) → es ≡ rowed V us fs → map (λ (e : PathOf × LabelRow). e.0) es ≡ map (λ (f : PathOf × Node). f.0) fs
  rowed_paths es fs are = ap (map (λ (e : PathOf × LabelRow). e.0)) are ∙ map_twice (λ (f : PathOf × Node). (f.0, label_row V us f.1.label)) (λ (e : PathOf × LabelRow). e.0) fs

  pub rowed_long : (es : RowedPaths) (fs : Files) → es ≡ rowed V us fs → length es ≡ length fs
  rowed_long es fs are = ap length are ∙ length-map fs (λ (f : PathOf × Node). (f.0, label_row V us f.1.label))

-- ---- files that change

-- entries of the same paths are removed
same_gone : {A B C : Type 0} (gs : List (PathOf × A)) (hs : List (PathOf × B)) → map (λ (g : PathOf × A). g.0) gs ≡ map (λ (h : PathOf × B). h.0) hs
    → (puts es : List (PathOf × C)) → merged puts gs es ≡ merged puts hs es
same_gone {C = C} gs hs same puts es = ap (put_all puts) (kept es)
  where
    same_has : {A B : Type 0} (p : PathOf) (gs : List (PathOf × A)) (hs : List (PathOf × B)) → map (λ (g : PathOf × A). g.0) gs ≡ map (λ (h : PathOf × B). h.0) hs → has p gs ≡ has p hs
    same_has p [] [] same = refl
    same_has p [] (h ∷ hs) same = cc
    same_has p (g ∷ gs) [] same = cc
    same_has {A = A} {B = B} p (g ∷ gs) (h ∷ hs) same = by (path_cmp p g.0) (same_has p gs hs (same_tails same))
        ∙ ap (λ q. is_some (cond (is_eq (path_cmp p q)) (Some h.1) (find path_cmp p hs))) (same_heads same)
      where
        by : (o : Ordering) → has p gs ≡ has p hs → is_some (cond (is_eq o) (Some g.1) (find path_cmp p gs)) ≡ is_some (cond (is_eq o) (Some h.1) (find path_cmp p hs))
        by Less more = more
        by Equal more = refl
        by Greater more = more

    kept : (es : List (PathOf × C)) → filter (λ e. not (has e.0 gs)) es ≡ filter (λ e. not (has e.0 hs)) es
    kept [] = refl
    kept (e ∷ es) = λ i. cond (not (same_has e.0 gs hs same i)) (e ∷ kept es i) (kept es i)

module _ (V : Verdict) (us : List Person) where
  -- a file with another label has another row, at most
  same_one : (o : Option Node) (n : Node) → option_map_or (λ m. not (same_label m.label n.label)) o true ≡ false → option_map (λ (m : Node). label_row V us m.label) o ≡ Some (label_row V us n.label)
  same_one None n h = cc
  same_one (Some m) n h = ap (λ (l : Label). Some (label_row V us l)) (label_is_same m.label n.label (yes (same_label m.label n.label) h))
    where
      yes : (b : Bool) → not b ≡ false → b ≡ true
      yes true h = refl
      yes false h = cc

  pub rows_changed : {W : Type 0} (old new : Files) (labels : List (PathOf × Label)) (gone : List (PathOf × W)) → labels ≡ labels_of (changed_between old new)
      → map (λ (g : PathOf × W). g.0) gone ≡ map (λ (g : PathOf × Node). g.0) (gone_between old new)
      → IsInOrder old → IsInOrder new → merged (rowed_labels V us labels) gone (rowed V us old) ≡ rowed V us new
  rows_changed old new labels gone are are_gone o n =
      same_gone gone (gone_between old new) are_gone (rowed_labels V us labels) (rowed V us old)
      ∙ ap (λ (puts : RowedPaths). merged puts (gone_between old new) (rowed V us old))
      (ap (rowed_labels V us) are ∙ map_twice (λ (f : PathOf × Node). (f.0, f.1.label)) (λ (l : PathOf × Label). (l.0, label_row V us l.1)) (changed_between old new))
      ∙ rows_merged (λ (m : Node). label_row V us m.label) (λ o m. option_map_or (λ k. not (same_label k.label m.label)) o true) same_one old new o n

-- ---- users who move, come or go

each_same : {A B : Type 0} (f g : A → B) → ((x : A) → f x ≡ g x) → (xs : List A) → map f xs ≡ map g xs
each_same f g same [] = refl
each_same f g same (x ∷ xs) = λ i. same x i ∷ each_same f g same xs i

-- rows that are changed one by one
each_changed : (V : Verdict) (us ws : List Person) (f : LabelRow → LabelRow) → ((n : Node) → f (label_row V us n.label) ≡ label_row V ws n.label)
    → (es : RowedPaths) (fs : Files) → es ≡ rowed V us fs → each_row f es ≡ rowed V ws fs
each_changed V us ws f same es fs are =
    ap (each_row f) are
    ∙ map_twice (λ (e : PathOf × Node). (e.0, label_row V us e.1.label)) (λ (e : PathOf × LabelRow). (e.0, f e.1)) fs
    ∙ each_same (λ (e : PathOf × Node). (e.0, f (label_row V us e.1.label))) (λ (e : PathOf × Node). (e.0, label_row V ws e.1.label)) (λ e i. (e.0, same e.1 i)) fs

abbrev with_cells : Label → List ℕ → LabelRow
with_cells l cells = record { label = l; row = cells }

module _ (V : Verdict) (us ws : List Person) (at : ℕ) (groups : List ℕ) (m : MovesUser us ws at groups)
    (local : (u w : Person) (f : Label) → AgreeOnMentions u w f → V u f ≡ V w f) (u : Person) (next : slice_get ws at ≡ Some u) where
  row_moved : (n : Node) → with_again V at u groups (label_row V us n.label) ≡ label_row V ws n.label
  row_moved n = by (meets (mentions n.label) groups) refl
    where
      wide : nat_lt at (length (cells_of V us n)) ≡ true
      wide = lt-ltb at (length (cells_of V us n)) (subst (λ k. at < k) (sym (length-map us (λ w. V w n.label))) (moved_in V us ws at groups m))

      by : (b : Bool) → meets (mentions n.label) groups ≡ b
          → (if b && nat_lt at (length (cells_of V us n)) then with_cells n.label (set (cells_of V us n) at (V u n.label)) else label_row V us n.label) ≡ label_row V ws n.label
      by true is =
          ap (λ b. if b then with_cells n.label (set (cells_of V us n) at (V u n.label)) else label_row V us n.label) wide
          ∙ ap (with_cells n.label) (cells_again V us ws at groups m n u next)
      by false is = ap (with_cells n.label) (cells_kept V us ws at groups m local n is)

  pub rows_moved : (es : RowedPaths) (fs : Files) → es ≡ rowed V us fs → each_row (with_again V at u groups) es ≡ rowed V ws fs
  rows_moved = each_changed V us ws (with_again V at u groups) row_moved

module _ (V : Verdict) (us : List Person) where
  pub rows_joined : (u : Person) (es : RowedPaths) (fs : Files) → es ≡ rowed V us fs → each_row (with_last V u) es ≡ rowed V (us ++ u ∷ []) fs
  rows_joined u = each_changed V us (us ++ u ∷ []) (with_last V u) (λ n. ap (with_cells n.label) (longer V us u n))

  pub rows_left : (at : ℕ) → at < length us → (es : RowedPaths) (fs : Files) → es ≡ rowed V us fs → each_row (without_at at) es ≡ rowed V (remove us at) fs
  rows_left at lt = each_changed V us (remove us at) (without_at at) row_left
    where
      row_left : (n : Node) → without_at at (label_row V us n.label) ≡ label_row V (remove us at) n.label
      row_left n =
          ap (λ b. with_cells n.label (if b then remove (cells_of V us n) at else cells_of V us n))
          (lt-ltb at (length (cells_of V us n)) (subst (λ k. at < k) (sym (length-map us (λ w. V w n.label))) lt))
          ∙ ap (with_cells n.label) (remove_seen (λ w. V w n.label) us at)

-- ---- labels that mention groups

count_seen : {A B : Type 0} (f : A → B) (test : B → Bool) (xs : List A) → count_by test (map f xs) ≡ count_by (λ x. test (f x)) xs
count_seen f test [] = refl
count_seen f test (x ∷ xs) =
    sum_by-cons (λ y. cond (test y) 1 0) (f x) (map f xs)
    ∙ (let more = count_seen f test xs in λ i. cond (test (f x)) 1 0 + more i)
    ∙ sym (sum_by-cons (λ y. cond (test (f y)) 1 0) x xs)

filter_seen : {A B C : Type 0} (f : A → B) (g : B → C) (test : B → Bool) (xs : List A) → map g (filter test (map f xs)) ≡ map (λ x. g (f x)) (filter (λ x. test (f x)) xs)
filter_seen f g test [] = refl
filter_seen f g test (x ∷ xs) = by (test (f x)) (filter_seen f g test xs)
  where
    by : (b : Bool) → map g (filter test (map f xs)) ≡ map (λ y. g (f y)) (filter (λ y. test (f y)) xs)
        → map g (cond b (f x ∷ filter test (map f xs)) (filter test (map f xs))) ≡ map (λ y. g (f y)) (cond b (x ∷ filter (λ y. test (f y)) xs) (filter (λ y. test (f y)) xs))
    by true more = ap (λ l. g (f x) ∷ l) more
    by false more = more

module _ (V : Verdict) (us : List Person) (groups : List ℕ) (es : RowedPaths) (fs : Files) (are : es ≡ rowed V us fs) where
  pub rows_mentioning : count_by (λ (e : PathOf × LabelRow). mentions_any groups e.1) es ≡ count_by (mentions_one groups) fs
  rows_mentioning = ap (count_by (λ (e : PathOf × LabelRow). mentions_any groups e.1)) are
      ∙ count_seen (λ (f : PathOf × Node). (f.0, label_row V us f.1.label)) (λ (e : PathOf × LabelRow). mentions_any groups e.1) fs

  pub paths_mentioning : map (λ (e : PathOf × LabelRow). e.0) (filter (λ (e : PathOf × LabelRow). mentions_any groups e.1) es) ≡ map (λ (f : PathOf × Node). f.0) (filter (mentions_one groups) fs)
  paths_mentioning =
      ap (λ (l : RowedPaths). map (λ (e : PathOf × LabelRow). e.0) (filter (λ (e : PathOf × LabelRow). mentions_any groups e.1) l)) are
      ∙ filter_seen (λ (f : PathOf × Node). (f.0, label_row V us f.1.label)) (λ (e : PathOf × LabelRow). e.0) (λ (e : PathOf × LabelRow). mentions_any groups e.1) fs
