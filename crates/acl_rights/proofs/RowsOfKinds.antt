-- Rows of verdicts by kinds.
use Rattle.std.proofs.Common.{◌≡◌, ℕ, zero, suc, Bool, true, false, cond, ◌+◌, ◌*◌, ◌<◌, ◌≤◌, ◌++◌, List, [], ◌∷◌, length, map, take, get_or, Some, None, refl, sym, ap, subst, ◌∙◌, arith}
use Rattle.std.specs.Prelude.{slice_get, slice_set, nat_lt, ◌&&◌, not}
use Rattle.std.specs.Borrow.{Bor}
use Rattle.std.specs.List.{sum_by}
use Rattle.std.specs.FinMap.{is_sorted}
use Rattle.std.proofs.lemmas.List.{length-append, map-append, take_more}
use Rattle.std.proofs.lemmas.List.Sums.{sum_by-cons}
use Rattle.acl_names.specs.Paths.{path_cmp, PathOf}
use Rattle.acl_names.proofs.Basics.{none_times, slice_get-last, some_same, all_filter}
use Rattle.path_map.specs.Entries.{IsInOrder}
use Rattle.path_map.proofs.Rows.{sorted_rows}
use Rattle.path_map.specs.Merged.{has, without_all}
use Rattle.kinds.specs.Kinds.{KindsOf, node_at}
use Rattle.kinds.specs.Numbered.{Kept, entries_in, with_node}
use Rattle.kinds.specs.Placed.{placed, given, AreGiven, ArePlaces}
use Rattle.kinds.specs.declared.placed.GivenNode.{GivenNode}
use Rattle.path_classes.specs.declared.label_row.LabelRow.{LabelRow}
use Rattle.acl_tree.specs.Files.{Files}
use Rattle.acl_entry.specs.Person.{Person}
use Rattle.acl_entry.specs.declared.label.Label.{Label}
use Rattle.acl_rights.specs.Rows.{Verdict, row_of}
use Rattle.kinds.specs.Renewed.{changed_where}
use Rattle.path_classes.specs.KindRows.{RowedPaths}
use Rattle.acl_rights.specs.KindRows.{with_again, asked_again, mentions_any, label_row, rowed, some_row, rowed_labels, AreRowsOf, HasLabel}
use Rattle.acl_rights.specs.KindRows.{borrowed_labels, labels_at, some_labels, IsPlaced, ArePlaced}

times_more : (n u : ℕ) → suc n * u ≡ u + n * u
times_more n u = grind arith

-- as much for each
pub sum_of_each : {A : Type 0} (u : ℕ) (xs : List A) → sum_by (λ x. u) xs ≡ length xs * u
sum_of_each u [] = sym (none_times u)
sum_of_each u (x ∷ xs) = sum_by-cons (λ x. u) x xs ∙ ap (λ n. u + n) (sum_of_each u xs) ∙ sym (times_more (length xs) u)

pub items_more : {A B : Type 0} (f : A → B) (xs : List A) (i : ℕ) (x : A) → i < length xs → x ≡ get_or xs i x → map f (take (i + 1) xs) ≡ map f (take i xs) ++ f x ∷ []
items_more f xs i x lt is = ap (map f) (take_more xs i x lt) ∙ map-append f (take i xs) (get_or xs i x ∷ []) ∙ ap (λ y. map f (take i xs) ++ f y ∷ []) (sym is)

-- ---- labels that differ

slice_kept : {A : Type 0} (xs ys : List A) (n : ℕ) (m : A) → slice_get xs n ≡ Some m → slice_get (xs ++ ys) n ≡ Some m
slice_kept [] ys n m h = cc
slice_kept (x ∷ xs) ys zero m h = h
slice_kept (x ∷ xs) ys (suc n) m h = slice_kept xs ys n m h

slice_within : {A : Type 0} (xs : List A) (n : ℕ) (m : A) → slice_get xs n ≡ Some m → n < length xs
slice_within [] n m h = cc
slice_within (x ∷ xs) zero m h = omega arith
slice_within (x ∷ xs) (suc n) m h = let lt = slice_within xs n m h in omega (arith, lt)

pub was_placed : (l : Label) (ls : List Label) (at : ℕ) → slice_get ls at ≡ Some l → IsPlaced l ls ls at
was_placed l ls at h = record { here = h; kept = λ n m is. is; few = omega arith }

pub newly_placed : (l : Label) (ls new : List Label) (at : ℕ) → new ≡ ls ++ l ∷ [] → at ≡ length ls → IsPlaced l ls new at
newly_placed l ls new at is is_at = record {
  here = (λ i. slice_get (is i) (is_at i)) ∙ slice_get-last ls l;
  kept = λ n m h. ap (λ xs. slice_get xs n) is ∙ slice_kept ls (l ∷ []) n m h;
  few = omega (arith, ap length is, length-append ls (l ∷ []));
}

same_heads : {A : Type 0} {x y : A} {xs ys : List A} → x ∷ xs ≡ y ∷ ys → x ≡ y
same_heads e = cc

same_tails : {A : Type 0} {x y : A} {xs ys : List A} → x ∷ xs ≡ y ∷ ys → xs ≡ ys
same_tails e = cc

labels_kept : (ls new : List Label) → ((n : ℕ) (m : Label) → slice_get ls n ≡ Some m → slice_get new n ≡ Some m)
    → (es : List (PathOf × ℕ)) (ps : List (PathOf × Label)) → labels_at ls es ≡ some_labels ps → labels_at new es ≡ some_labels ps
labels_kept ls new kept [] ps h = h
labels_kept ls new kept (e ∷ es) [] h = cc
labels_kept ls new kept (e ∷ es) (p ∷ ps) h =
    let path : e.0 ≡ p.0 = ap (λ x. x.0) (same_heads h) in
    let label : slice_get ls e.1 ≡ Some p.1 = ap (λ x. x.1) (same_heads h) in
    λ i. (path i, kept e.1 p.1 label i) ∷ labels_kept ls new kept es ps (same_tails h) i

pub placed_more : (ps : List (PathOf × Label)) (ls new : List Label) (es : List (PathOf × ℕ)) (p : PathOf) (l : Label) (at : ℕ)
    → ArePlaced ps ls es → IsPlaced l ls new at → ArePlaced (ps ++ (p, l) ∷ []) new (es ++ (p, at) ∷ [])
placed_more ps ls new es p l at h one = record {
  are =
      map-append (λ e. (e.0, slice_get new e.1)) es ((p, at) ∷ [])
      ∙ (λ i. labels_kept ls new one.kept es ps h.are i ++ (p, one.here i) ∷ [])
      ∙ sym (map-append (λ e. (e.0, Some e.1)) ps ((p, l) ∷ []));
  few = let few = h.few in let more = one.few in omega (arith, few, more, length-append ps ((p, l) ∷ []));
}

-- ---- rows of these

some_with : {A B : Type 0} (f : A → B) {x y : A} → Some x ≡ Some y → Some (f x) ≡ Some (f y)
some_with f e = cc

node_of : {A B : Type 0} (f : A → B) (xs : List A) (n : ℕ) (x : A) → slice_get xs n ≡ Some x → get_or (map (λ y. Some (f y)) xs) n None ≡ Some (f x)
node_of f [] n x h = cc
node_of f (y ∷ xs) zero x h = some_with f h
node_of f (y ∷ xs) (suc n) x h = node_of f xs n x h

module _ (V : Verdict) (us : List Person) where
  pub rows_all : (ls : List (Bor Label)) (n : ℕ) → length ls ≤ n → map (λ x. some_row V us x.now) (take n ls) ≡ map (some_row V us) (borrowed_labels ls)
  rows_all [] zero le = refl
  rows_all [] (suc n) le = refl
  rows_all (x ∷ ls) zero le = absurd (omega arith)
  rows_all (x ∷ ls) (suc n) le = ap (λ l. some_row V us x.now ∷ l) (rows_all ls n (omega arith))

  pub rows_placed : (ls : List Label) (es : List (PathOf × ℕ)) (ps : List (PathOf × Label)) → labels_at ls es ≡ some_labels ps → placed (map (some_row V us) ls) es ≡ rowed_labels V us ps
  rows_placed ls [] [] h = refl
  rows_placed ls [] (p ∷ ps) h = cc
  rows_placed ls (e ∷ es) [] h = cc
  rows_placed ls (e ∷ es) (p ∷ ps) h =
      let path : e.0 ≡ p.0 = ap (λ x. x.0) (same_heads h) in
      let label : slice_get ls e.1 ≡ Some p.1 = ap (λ x. x.1) (same_heads h) in
      λ i. with_node (path i) (node_of (label_row V us) ls e.1 p.1 label i) (rows_placed ls es ps (same_tails h) i)

  -- each row is given
  pub rows_given : (k : KindsOf LabelRow) (nodes : List (GivenNode LabelRow)) (ls : List Label) → map (given k) nodes ≡ map (some_row V us) ls → AreGiven k nodes
  rows_given k [] ls h = tt
  rows_given k (node ∷ nodes) [] h = cc
  rows_given k (node ∷ nodes) (l ∷ ls) h = ((label_row V us l, same_heads h), rows_given k nodes ls (same_tails h))

  -- ---- rows that files have

  pub row_at : (es : RowedPaths) (at : ℕ) (x : LabelRow) → AreRowsOf V us es → slice_get (map (λ e. e.1) es) at ≡ Some x → x.row ≡ row_of V us x.label
  row_at [] at x all h = cc
  row_at (e ∷ es) zero x all h = subst (λ (y : LabelRow). y.row ≡ row_of V us y.label) (some_same h) all.0
  row_at (e ∷ es) (suc at) x all h = row_at es at x all.1 h

  -- the row of a number that a file of this label has is that of the label
  pub row_known : (kept : Kept LabelRow) (l : Label) (n : ℕ) → AreRowsOf V us (entries_in kept) → HasLabel l n kept → node_at kept.0 n ≡ Some (label_row V us l)
  row_known kept l n all has =
      let x = has.0 in
      let row : x.row ≡ row_of V us x.label = row_at (entries_in kept) has.1.1.0.0 x all has.1.1.0.1 in
      has.1.0 ∙ ap (λ r. Some (record { label = x.label; row = r })) row ∙ ap (λ m. Some (label_row V us m)) has.1.1.1

  -- so are those of files
  pub rowed_rows : (fs : Files) → AreRowsOf V us (rowed V us fs)
  rowed_rows [] = tt
  rowed_rows (f ∷ fs) = (refl, rowed_rows fs)

  pub rows_left : {A : Type 0} (gone : List (PathOf × A)) (es : RowedPaths) → AreRowsOf V us es → AreRowsOf V us (without_all gone es)
  rows_left gone es all = all_filter _ (λ e. not (has e.0 gone)) es all

pub places_within : (ls : List Label) (n : ℕ) → n ≡ length ls → (es : List (PathOf × ℕ)) (ps : List (PathOf × Label)) → labels_at ls es ≡ some_labels ps → ArePlaces n es
places_within ls n is [] ps h = tt
places_within ls n is (e ∷ es) [] h = cc
places_within ls n is (e ∷ es) (p ∷ ps) h =
    let label : slice_get ls e.1 ≡ Some p.1 = ap (λ x. x.1) (same_heads h) in
    let lt = slice_within ls e.1 p.1 label in
    (omega (arith, lt, is), places_within ls n is es ps (same_tails h))

pub places_order : (ls : List Label) (es : List (PathOf × ℕ)) (ps : List (PathOf × Label)) → labels_at ls es ≡ some_labels ps → IsInOrder ps → IsInOrder es
places_order ls es ps h order =
    sym (sorted_rows (slice_get ls) es) ∙ ap (is_sorted path_cmp) h ∙ sorted_rows Some ps ∙ order

-- if a label mentions one of the groups, the user is judged again; else the row stays
pub again_where : (V : Verdict) (at : ℕ) (u : Person) (groups : List ℕ) → changed_where (mentions_any groups) (asked_again V at u) ≡ with_again V at u groups
again_where V at u groups = λ i r. by r (mentions_any groups r) i
  where
    by : (r : LabelRow) (b : Bool) → cond b (asked_again V at u r) r ≡ cond (b && nat_lt at (length r.row)) (record { label = r.label; row = slice_set r.row at (V u r.label) }) r
    by r true = refl
    by r false = refl
