-- Paths that are sorted are apart exactly where they rise.
use Rattle.std.proofs.Common.{◌≡◌, ℕ, ◌+◌, ◌-◌, ◌<◌, ◌≤◌, true, false, List, [], ◌∷◌, length, get_or, map, Less, Equal, Greater, Ordering, refl, sym, ap, ◌∙◌, arith}
use Rattle.std.specs.Prelude.{◌==◌, not}
use Rattle.std.specs.List.{IsDistinct}
use Rattle.std.specs.List.Sorted.{IsPermutation, IsSortedBy, IsStrictlySortedBy}
use Rattle.std.specs.Ordering.{is_lt, is_eq, ordering_index, ordering_reverse}
use Rattle.std.proofs.lemmas.Cmp.{eq_by_cmp_equiv}
use Rattle.std.proofs.lemmas.List.{get_or-map, length-map}
use Rattle.std.proofs.lemmas.List.Sorted.{IsPermutation-sym, IsPermutation-map}
use Rattle.std.proofs.lemmas.Map.Keys.{IsDistinct-from_sorted, IsDistinct-IsPermutation, sorted_from_all_adjacent, apart_from_distinct, Less-from_sorted}
use Rattle.acl_names.specs.Paths.{path_cmp}
use Rattle.acl_names.proofs.PathOrder.{path_total}
use Rattle.acl_text.specs.Records.{same_path}

-- neighbours of a list that is seen through a function
adjacent : {A B : Type 0} (f : A → B) (cmp : B → B → Ordering) (xs : List A) (e : B) → ((k : ℕ) (d : A) → k + 1 < length xs → cmp (f (get_or xs k d)) (f (get_or xs (k + 1) d)) ≡ Less)
    → (k : ℕ) → k + 1 < length xs → cmp (get_or (map f xs) k e) (get_or (map f xs) (k + 1) e) ≡ Less
adjacent f cmp [] e rising k lt = absurd (omega (arith, lt))
adjacent f cmp (x ∷ xs) e rising k lt =
    ap (λ a. cmp a (get_or (map f (x ∷ xs)) (k + 1) e)) (get_or-map f (x ∷ xs) k x e (omega (arith, lt)))
    ∙ ap (λ b. cmp (f (get_or (x ∷ xs) k x)) b) (get_or-map f (x ∷ xs) (k + 1) x e lt)
    ∙ rising k x lt

pub rising_paths : {A : Type 0} (f : A → List (List ℕ)) (xs : List A)
    → ((k : ℕ) (d : A) → k + 1 < length xs → path_cmp (f (get_or xs k d)) (f (get_or xs (k + 1) d)) ≡ Less) → IsStrictlySortedBy path_cmp (map f xs)
rising_paths f xs rising = sorted_from_all_adjacent path_total (map f xs) [] (λ k lt. adjacent f path_cmp xs [] rising k (omega (arith, lt, length-map xs f)))

pub flips : (x y : List (List ℕ)) → same_path x y ≡ same_path y x
flips x y = (eq_by_cmp_equiv path_total).symm x y

-- paths that rise in some order are apart in any
pub apart_in_order : {A : Type 0} (f : A → List (List ℕ)) (xs ys : List A) → IsPermutation xs ys → IsStrictlySortedBy path_cmp (map f ys) → IsDistinct same_path (map f xs)
apart_in_order f xs ys order rising =
    IsDistinct-IsPermutation same_path flips (map f ys) (map f xs) (IsPermutation-map f ys xs (IsPermutation-sym xs ys order)) (IsDistinct-from_sorted path_cmp (map f ys) rising)

-- of paths that rise an earlier one is below a later one
pub earlier_below : {A : Type 0} (f : A → List (List ℕ)) (xs : List A) (i j : ℕ) (d e : A) → i < j → j < length xs → IsStrictlySortedBy path_cmp (map f xs)
    → path_cmp (f (get_or xs i d)) (f (get_or xs j e)) ≡ Less
earlier_below f xs i j d e lt within rising =
    ap (λ a. path_cmp a (f (get_or xs j e))) (sym (get_or-map f xs i d (f d) (omega (arith, lt, within))))
    ∙ (ap (λ b. path_cmp (get_or (map f xs) i (f d)) b) (sym (get_or-map f xs j e (f d) within)) ∙ Less-from_sorted path_cmp (map f xs) i j (f d) rising lt (omega (arith, within, length-map xs f)))

not_less : (o : Ordering) → o ≡ Less → not (ordering_index o == 0) ≡ true → false ≡ true
not_less Less is other = absurd cc
not_less Equal is other = absurd cc
not_less Greater is other = absurd cc

-- paths do not rise where one of them is not below the next
pub do_not_rise : {A : Type 0} (f : A → List (List ℕ)) (xs : List A) (j : ℕ) (x y : A) (o : Ordering) → 1 ≤ j → j < length xs → x ≡ get_or xs (j - 1) x
    → y ≡ get_or xs j y → o ≡ path_cmp (f x) (f y) → not (ordering_index o == 0) ≡ true
    → IsStrictlySortedBy path_cmp (map f xs) → false ≡ true
do_not_rise f xs j x y o some within is_x is_y is other rising =
    let low = earlier_below f xs (j - 1) j x y (omega (arith, some)) within rising in
    not_less o (is ∙ (ap (λ p. path_cmp (f p) (f y)) is_x ∙ (ap (λ p. path_cmp (f (get_or xs (j - 1) x)) (f p)) is_y ∙ low))) other

-- of two paths that are apart, the second of which is not below the first, the first is below
below : (o : Ordering) (a b : List (List ℕ)) → path_cmp b a ≡ o → is_lt o ≡ false → same_path a b ≡ false → path_cmp a b ≡ Less
below Less a b is up apart = absurd cc
below Equal a b is up apart = let tied : is_eq Equal ≡ false = ap is_eq (sym (path_total.antisymm a b ∙ ap ordering_reverse is)) ∙ apart in absurd cc
below Greater a b is up apart = path_total.antisymm a b ∙ ap ordering_reverse is

-- paths that are sorted and apart rise
pub sorted_rise : {A : Type 0} (f : A → List (List ℕ)) (ys : List A) → IsSortedBy (λ x y. is_lt (path_cmp (f x) (f y))) ys → IsDistinct same_path (map f ys) → IsStrictlySortedBy path_cmp (map f ys)
sorted_rise f ys sorted apart =
    rising_paths f ys (λ k d lt.
    let differ = apart_from_distinct same_path (map f ys) k (k + 1) (f d) apart (omega arith) (omega (arith, lt, length-map ys f)) in
    let here = ap (λ a. same_path a (f (get_or ys (k + 1) d))) (sym (get_or-map f ys k d (f d) (omega (arith, lt))))
    ∙ (ap (λ b. same_path (get_or (map f ys) k (f d)) b) (sym (get_or-map f ys (k + 1) d (f d) lt)) ∙ differ) in
    below (path_cmp (f (get_or ys (k + 1) d)) (f (get_or ys k d))) (f (get_or ys k d)) (f (get_or ys (k + 1) d)) refl (sorted k d (omega arith) lt) here)

-- sorted paths rise where they are apart in another order
pub sorted_rise_again : {A : Type 0} (f : A → List (List ℕ)) (xs ys : List A) → IsPermutation xs ys → IsSortedBy (λ x y. is_lt (path_cmp (f x) (f y))) ys
    → IsDistinct same_path (map f xs) → IsStrictlySortedBy path_cmp (map f ys)
sorted_rise_again f xs ys order sorted apart = sorted_rise f ys sorted (IsDistinct-IsPermutation same_path flips (map f xs) (map f ys) (IsPermutation-map f xs ys order) apart)
