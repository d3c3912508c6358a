-- Counts over rows of verdicts and over files, look-ups of files, and the places of users before and after a line.
use Rattle.std.proofs.Common.{◌≡◌, ℕ, zero, suc, ◌+◌, ◌*◌, ◌<◌, ◌≤◌, Bool, true, false, cond, not, eqb, ◌||◌, ◌&&◌, List, [], ◌∷◌, length, map, filter, take}
use Rattle.std.proofs.Common.{drop, set, Option, Some, None, ◌++◌, append_assoc, IsTrue, refl, sym, ap, subst, ◌∙◌, arith}
use Rattle.std.specs.Prelude.{option_map, option_and_then, slice_get, count_by, if◌then◌else◌, nat_lt}
use Rattle.std.specs.List.{list_all, list_any, sum_by, AllByRecursion, remove}
use Rattle.std.specs.Ordering.{is_eq, is_lt}
use Rattle.std.specs.FinMap.{find, is_sorted}
use Rattle.std.specs.FinMap.Entries.{below_all}
use Rattle.std.proofs.lemmas.Bool.{and_parts, eqb-true, eq-eqb, ltb-true, ltb-false}
use Rattle.std.proofs.lemmas.List.Sums.{sum_by-cons}
use Rattle.std.proofs.lemmas.Cmp.{tied_itself}
use Rattle.acl_entry.specs.Person.{Person}
use Rattle.acl_names.specs.Paths.{path_cmp, PathOf}
use Rattle.acl_names.proofs.PathOrder.{path_total, exact_paths}
use Rattle.acl_names.specs.Below.{is_above}
use Rattle.acl_names.proofs.Basics.{not_both, both_false, is_less, is_equal, times_none}
use Rattle.path_map.proofs.Places.{above}
use Rattle.path_map.specs.Entries.{IsInOrder}
use Rattle.path_classes.specs.Rows.{Rows}
use Rattle.path_classes.specs.ReachedRows.{reached_from}
use Rattle.acl_rights.specs.Differing.{fails_from}
use Rattle.path_classes.proofs.Maps.{map_filter, find-values, find-filter, same_found}
use Rattle.acl_rights.proofs.Orders.{in_order-values}

-- ---- counts of cells

abbrev mark : Bool → ℕ
mark b = if b then 0 else 1

unit : (b : Bool) → mark b ≤ 1
unit true = omega arith
unit false = omega arith

pub missed_most : (t : ℕ → ℕ → Bool) (n : ℕ) (cells : List ℕ) → fails_from t n cells ≤ length cells
missed_most t n [] = omega arith
missed_most t n (c ∷ cells) = omega (arith, unit (t n c), missed_most t (suc n) cells)

pub missed_none : (t : ℕ → ℕ → Bool) (n : ℕ) (cells : List ℕ) → ((i c : ℕ) → slice_get cells i ≡ Some c → t (n + i) c ≡ true) → fails_from t n cells ≡ 0
missed_none t n [] h = refl
missed_none t n (c ∷ cells) h =
    let e : n + 0 ≡ n = omega arith in
    let head : mark (t n c) ≡ 0 = ap mark (ap (λ k. t k c) (sym e) ∙ h 0 c refl) in
    let rest = missed_none t (suc n) cells (λ i d is. let e : suc n + i ≡ n + suc i = omega arith in ap (λ k. t k d) e ∙ h (suc i) d is) in
    omega (arith, head, rest)

pub missed_one : (t : ℕ → ℕ → Bool) (j n : ℕ) (cells : List ℕ) → ((i c : ℕ) → slice_get cells i ≡ Some c → (n + i ≡ j → ⊥) → t (n + i) c ≡ true) → fails_from t n cells ≤ 1
missed_one t j n [] h = omega arith
missed_one t j n (c ∷ cells) h = by (eqb n j) refl (missed_one t j (suc n) cells)
  where
    next : (i : ℕ) → suc n + i ≡ n + suc i
    next i = omega arith

    by : (b : Bool) → eqb n j ≡ b → (((i d : ℕ) → slice_get cells i ≡ Some d → (suc n + i ≡ j → ⊥) → t (suc n + i) d ≡ true) → fails_from t (suc n) cells ≤ 1) → fails_from t n (c ∷ cells) ≤ 1
    by true is more =
        let same = eqb-true n j is in
        let rest = missed_none t (suc n) cells (λ i d got. ap (λ k. t k d) (next i) ∙ h (suc i) d got (λ (e : n + suc i ≡ j). absurd (omega (arith, e, same)))) in
        omega (arith, unit (t n c), rest)
    by false is more =
        let e : n + 0 ≡ n = omega arith in
        let head : mark (t n c) ≡ 0 = ap mark (ap (λ k. t k c) (sym e) ∙ h 0 c refl (λ at. not_both (eqb n j) (eq-eqb n j (sym e ∙ at)) is)) in
        let rest = more (λ i d got apart. ap (λ k. t k d) (next i) ∙ h (suc i) d got (λ at. apart (next i ∙ at))) in
        omega (arith, head, rest)

-- ---- maps and their elements

first_before : {A : Type 0} (x : PathOf) (es : List (PathOf × A)) (e : PathOf × A) (fs : List (PathOf × A)) → IsTrue (below_all path_cmp x (es ++ e ∷ fs)) → is_lt (path_cmp x e.0) ≡ true
first_before x [] e fs h = (and_parts (is_lt (path_cmp x e.0)) (below_all path_cmp x fs) h).0
first_before x (d ∷ es) e fs h = first_before x es e fs (and_parts (is_lt (path_cmp x d.0)) (below_all path_cmp x (es ++ e ∷ fs)) h).1

found_mid : {A : Type 0} (pre : List (PathOf × A)) (e : PathOf × A) (es : List (PathOf × A)) → IsInOrder (pre ++ e ∷ es) → find path_cmp e.0 (pre ++ e ∷ es) ≡ Some e.1
found_mid [] e es h = ap (λ o. cond (is_eq o) (Some e.1) (find path_cmp e.0 es)) (tied_itself path_total e.0)
found_mid (d ∷ pre) e es h =
    let parts = and_parts (below_all path_cmp d.0 (pre ++ e ∷ es)) (is_sorted path_cmp (pre ++ e ∷ es)) h in
    ap (λ o. cond (is_eq o) (Some d.1) (find path_cmp e.0 (pre ++ e ∷ es))) (above d.0 e.0 (is_less (path_cmp d.0 e.0) (first_before d.0 pre e es parts.0))) ∙ found_mid pre e es parts.1

pub any_found : {A : Type 0} (f : PathOf × A → Bool) (es : List (PathOf × A)) (q : PathOf) (a : A) → list_any f es ≡ false → find path_cmp q es ≡ Some a → f (q, a) ≡ false
any_found f [] q a none is = cc
any_found f (e ∷ es) q a none is = by (is_eq (path_cmp q e.0)) refl is (any_found f es q a (both_false (f e) (list_any f es) none).1)
  where
    by : (b : Bool) → is_eq (path_cmp q e.0) ≡ b → cond b (Some e.1) (find path_cmp q es) ≡ Some a → (find path_cmp q es ≡ Some a → f (q, a) ≡ false) → f (q, a) ≡ false
    by true same here more =
        let path = exact_paths q e.0 (is_equal (path_cmp q e.0) same) in
        let back : a ≡ e.1 = cc in
        ap f (λ i. (path i, back i)) ∙ (both_false (f e) (list_any f es) none).0
    by false other there more = more there

pub any_filter : {A : Type 0} (f t : A → Bool) (es : List A) → list_any f (filter t es) ≡ list_any (λ e. t e && f e) es
any_filter f t [] = refl
any_filter f t (e ∷ es) = by (any_filter f t es) (t e)
  where
    by : list_any f (filter t es) ≡ list_any (λ e. t e && f e) es → (b : Bool) → list_any f (cond b (e ∷ filter t es) (filter t es)) ≡ ((b && f e) || list_any (λ e. t e && f e) es)
    by more true = ap (λ b. f e || b) more
    by more false = more

pub each_found : {A : Type 0} (P : PathOf → Type 0) (t : PathOf × A → Bool) (es : List (PathOf × A)) (q : PathOf) (a : A)
    → AllByRecursion (λ e. P e.0) (filter t es) → find path_cmp q es ≡ Some a → t (q, a) ≡ true → P q
each_found P t [] q a all is ok = cc
each_found P t (e ∷ es) q a all is ok = by (is_eq (path_cmp q e.0)) refl is (λ h there. each_found P t es q a h there ok)
  where
    rest : (b : Bool) → AllByRecursion (λ e. P e.0) (cond b (e ∷ filter t es) (filter t es)) → AllByRecursion (λ e. P e.0) (filter t es)
    rest true h = h.1
    rest false h = h

    first : (b : Bool) → AllByRecursion (λ e. P e.0) (cond b (e ∷ filter t es) (filter t es)) → b ≡ true → P e.0
    first true h k = h.0
    first false h k = cc

    by : (b : Bool) → is_eq (path_cmp q e.0) ≡ b → cond b (Some e.1) (find path_cmp q es) ≡ Some a → (AllByRecursion (λ e. P e.0) (filter t es) → find path_cmp q es ≡ Some a → P q) → P q
    by true same here more =
        let path = exact_paths q e.0 (is_equal (path_cmp q e.0) same) in
        let value : e.1 ≡ a = cc in
        let back = sym path in
        subst P (sym path) (first (t e) all (ap t (λ i. (back i, value i)) ∙ ok))
    by false other there more = more (rest (t e) all) there

-- ---- who passes depends only on what is above

all_kept : {A : Type 0} (f : A → Bool) (p : PathOf) (es : List (PathOf × A))
    → list_all (λ e. not (is_above e.0 p) || f e.1) es ≡ list_all (λ (e : PathOf × Bool). e.1) (map (λ (e : PathOf × A). (e.0, f e.1)) (filter (λ e. is_above e.0 p) es))
all_kept {A = A} f p [] = refl
all_kept {A = A} f p (e ∷ es) = by (all_kept f p es) (is_above e.0 p)
  where
    by : list_all (λ e. not (is_above e.0 p) || f e.1) es
        ≡ list_all (λ (e : PathOf × Bool). e.1) (map (λ (e : PathOf × A). (e.0, f e.1)) (filter (λ e. is_above e.0 p) es)) → (b : Bool)
        → ((not b || f e.1) && list_all (λ e. not (is_above e.0 p) || f e.1) es)
        ≡ list_all (λ (e : PathOf × Bool). e.1) (map (λ (e : PathOf × A). (e.0, f e.1)) (cond b (e ∷ filter (λ e. is_above e.0 p) es) (filter (λ e. is_above e.0 p) es)))
    by more true = ap (λ b. f e.1 && b) more
    by more false = more

found_kept : {A : Type 0} (f : A → Bool) (p q : PathOf) (es : List (PathOf × A)) → IsInOrder es
    → find path_cmp q (map (λ (e : PathOf × A). (e.0, f e.1)) (filter (λ e. is_above e.0 p) es)) ≡ (if is_above q p then option_map f (find path_cmp q es) else None)
found_kept {A = A} f p q es o = find-values f q (filter (λ e. is_above e.0 p) es) ∙ ap (option_map f) (find-filter (λ e. is_above e.0 p) q es o) ∙ by (is_above q p) (find path_cmp q es)
  where
    by : (b : Bool) (x : Option A) → option_map f (option_and_then (λ a. if b then Some a else None) x) ≡ (if b then option_map f x else None)
    by true None = refl
    by true (Some a) = refl
    by false None = refl
    by false (Some a) = refl

pub alike_above : {A B : Type 0} (f : A → Bool) (g : B → Bool) (p : PathOf) (es : List (PathOf × A)) (fs : List (PathOf × B)) → IsInOrder es → IsInOrder fs
    → ((q : PathOf) → is_above q p ≡ true → option_map f (find path_cmp q es) ≡ option_map g (find path_cmp q fs))
    → list_all (λ e. not (is_above e.0 p) || f e.1) es ≡ list_all (λ e. not (is_above e.0 p) || g e.1) fs
alike_above {A = A} {B = B} f g p es fs o r h =
    all_kept f p es
    ∙ ap (list_all (λ (e : PathOf × Bool). e.1))
    (same_found (map (λ (e : PathOf × A). (e.0, f e.1)) (filter (λ e. is_above e.0 p) es)) (map (λ (e : PathOf × B). (e.0, g e.1)) (filter (λ e. is_above e.0 p) fs))
    (in_order-values (λ (e : PathOf × A). f e.1) (filter (λ e. is_above e.0 p) es) (map_filter (λ e. is_above e.0 p) es o))
    (in_order-values (λ (e : PathOf × B). g e.1) (filter (λ e. is_above e.0 p) fs) (map_filter (λ e. is_above e.0 p) fs r))
    (λ q. found_kept f p q es o ∙ by q (is_above q p) refl ∙ sym (found_kept g p q fs r)))
    ∙ sym (all_kept g p fs)
  where
    by : (q : PathOf) (b : Bool) → is_above q p ≡ b → (if b then option_map f (find path_cmp q es) else None) ≡ (if b then option_map g (find path_cmp q fs) else None)
    by q true is = h q is
    by q false is = refl

-- ---- rows, one by one

pub some_same : (a b : ℕ) → Some a ≡ Some b → a ≡ b
some_same a b h = cc

pub long_row : (rows : Rows) (p : PathOf) (n : ℕ) (cells : List ℕ) → length (reached_from rows p n cells) ≡ length cells
long_row rows p n [] = refl
long_row rows p n (c ∷ cells) = ap suc (long_row rows p (suc n) cells)

pub sum_le : {A B : Type 0} (f : A → B) (F : B → ℕ) (a : A → ℕ) (P : A → Type 0) (es : List A) → AllByRecursion P es → ((e : A) → P e → F (f e) ≤ a e) → sum_by F (map f es) ≤ sum_by a es
sum_le f F a P [] all h = omega arith
sum_le f F a P (e ∷ es) all h =
    let more = sum_le f F a P es all.1 h in
    omega (arith, sum_by-cons F (f e) (map f es), sum_by-cons a e es, h e all.0, more)

pub finds : {A : Type 0} (all pre es : List (PathOf × A)) → pre ++ es ≡ all → IsInOrder all → AllByRecursion (λ e. find path_cmp e.0 all ≡ Some e.1) es
finds all pre [] is o = tt
finds all pre (e ∷ es) is o =
    (ap (find path_cmp e.0) (sym is) ∙ found_mid pre e es (subst IsInOrder (sym is) o), finds all (pre ++ e ∷ []) es (append_assoc pre (e ∷ []) es ∙ is) o)

times_more : (l a b : ℕ) → l * (a + b) ≡ l * a + l * b
times_more l a b = grind arith

pub sum_parts : {A : Type 0} (l : ℕ) (c : A → Bool) (x : A → ℕ) (es : List A) → sum_by (λ e. l * (if c e then 1 else 0) + x e) es ≡ l * count_by c es + sum_by x es
sum_parts l c x [] = let e = times_none l in omega (arith, e)
sum_parts l c x (e ∷ es) =
    let more = sum_parts l c x es in
    let heads = sum_by-cons (λ e. l * (if c e then 1 else 0) + x e) e es in
    let counts = ap (λ k. l * k) (sum_by-cons (λ e. if c e then 1 else 0) e es) ∙ times_more l (if c e then 1 else 0) (count_by c es) in
    let rest = sum_by-cons x e es in
    omega (arith, heads, counts, rest, more)

-- ---- places of users

pub set_other : {A : Type 0} (xs : List A) (at i : ℕ) (x : A) → (i ≡ at → ⊥) → slice_get (set xs at x) i ≡ slice_get xs i
set_other [] at i x apart = refl
set_other (y ∷ xs) zero zero x apart = absurd (apart refl)
set_other (y ∷ xs) zero (suc i) x apart = refl
set_other (y ∷ xs) (suc at) zero x apart = refl
set_other (y ∷ xs) (suc at) (suc i) x apart = set_other xs at i x (λ e. apart (ap suc e))

pub joined_was : {A : Type 0} (xs : List A) (y : A) (i : ℕ) (w : A) → slice_get (xs ++ y ∷ []) i ≡ Some w → (i ≡ length xs → ⊥) → slice_get xs i ≡ Some w
joined_was [] y zero w h apart = absurd (apart refl)
joined_was [] y (suc i) w h apart = h
joined_was (x ∷ xs) y zero w h apart = h
joined_was (x ∷ xs) y (suc i) w h apart = joined_was xs y i w h (λ e. apart (ap suc e))

drop_none : {A : Type 0} (xs : List A) → drop 0 xs ≡ xs
drop_none [] = refl
drop_none (x ∷ xs) = refl

left_before : {A : Type 0} (xs : List A) (at i : ℕ) → i < at → slice_get (take at xs ++ drop (suc at) xs) i ≡ slice_get xs i
left_before [] zero i lt = refl
left_before [] (suc at) i lt = refl
left_before (x ∷ xs) zero i lt = absurd (omega (arith, lt))
left_before (x ∷ xs) (suc at) zero lt = refl
left_before (x ∷ xs) (suc at) (suc i) lt = left_before xs at i (omega (arith, lt))

left_after : {A : Type 0} (xs : List A) (at i : ℕ) → at ≤ i → slice_get (take at xs ++ drop (suc at) xs) i ≡ slice_get xs (suc i)
left_after [] zero i le = refl
left_after [] (suc at) i le = refl
left_after (x ∷ xs) zero i le = ap (λ l. slice_get l i) (drop_none xs)
left_after (x ∷ xs) (suc at) zero le = absurd (omega (arith, le))
left_after (x ∷ xs) (suc at) (suc i) le = left_after xs at i (omega (arith, le))

pub left_was : {A : Type 0} (xs : List A) (at i : ℕ) → slice_get (remove xs at) i ≡ slice_get xs (if nat_lt i at then i else suc i)
left_was xs at i = by (nat_lt i at) refl
  where
    by : (b : Bool) → nat_lt i at ≡ b → slice_get (take at xs ++ drop (suc at) xs) i ≡ slice_get xs (if b then i else suc i)
    by true is = left_before xs at i (ltb-true i at is)
    by false is = left_after xs at i (let h = ltb-false i at is in omega (arith, h))

pub person_same : (a b : Person) → Some a ≡ Some b → a ≡ b
person_same a b h = cc
