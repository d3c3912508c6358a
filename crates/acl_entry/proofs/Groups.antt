-- A user's groups as they are kept: rising, each once.
use Rattle.std.proofs.Common.{◌≡◌, ℕ, ◌<◌, ◌≤◌, ◌⊎◌, inl, inr, Bool, true, false, ◌||◌, cond, eqb, nat_eq, nat_cmp, List, [], ◌∷◌, length, get_or, Result, Ok, Err, is_ok, refl, sym, ap, ◌∙◌, arith}
use Rattle.std.specs.List.{list_any, dedup, dedup_from}
use Rattle.std.specs.List.Sorted.{IsPermutation, IsStrictlyIncreasing, IsBinarySearchResult}
use Rattle.std.specs.FinSet as sets
use Rattle.std.specs.FinSet.{contains-from_list_nat, same_set, nat_cmp-IsAntisymmetric}
use Rattle.std.proofs.lemmas.Bool.{eqb-true, eq-eqb, cases_lt}
use Rattle.std.proofs.lemmas.Cmp.{nat_cmp_total}
use Rattle.std.proofs.lemmas.Bool.Decides.{nat_tests}
use Rattle.std.proofs.lemmas.List.Elements.{All-from_get_or}
use Rattle.std.proofs.Math.Nat.{eq-or-lt_of_le}
use Rattle.std.proofs.lemmas.List.Folds.{list_any_at, list_any_none}
use Rattle.std.proofs.lemmas.List.Kept.{AllPairs-from_increasing}
use Rattle.std.proofs.lemmas.List.Sorted.{list_any-IsPermutation, searched}

twice : (a b : Bool) → (a || (a || b)) ≡ (a || b)
twice true b = refl
twice false b = refl

-- no element is lost with its repeats
any-dedup_from : (p : ℕ → Bool) (k : ℕ) (xs : List ℕ) → list_any p (dedup_from eqb k xs) ≡ (p k || list_any p xs)
any-dedup_from p k [] = refl
any-dedup_from p k (x ∷ xs) = elim (eqb x k) as (λ b. eqb x k ≡ b → list_any p (cond b (dedup_from eqb k xs) (k ∷ dedup_from eqb x xs)) ≡ (p k || (p x || list_any p xs))) [
  | true ↦ λ same. any-dedup_from p k xs ∙ sym (twice (p k) (list_any p xs)) ∙ ap (λ y. p k || (p y || list_any p xs)) (sym (eqb-true x k same))
  | false ↦ λ apart. ap (λ b. p k || b) (any-dedup_from p x xs)
] refl

any-dedup : (p : ℕ → Bool) (xs : List ℕ) → list_any p (dedup eqb xs) ≡ list_any p xs
any-dedup p [] = refl
any-dedup p (x ∷ xs) = any-dedup_from p x xs

-- the same groups, sorted and each once
pub from_list-dedup : (xs ys : List ℕ) → IsPermutation xs ys → sets.from_list {R = nat_cmp} (dedup eqb ys) ≡ sets.from_list xs
from_list-dedup xs ys moved = same_set nat_cmp_total nat_cmp-IsAntisymmetric _ _ (λ q.
    contains-from_list_nat (dedup eqb ys) q
    ∙ any-dedup (λ y. nat_eq y q) ys
    ∙ sym (list_any-IsPermutation (λ y. nat_eq y q) xs ys moved)
    ∙ sym (contains-from_list_nat xs q))

not_equal : (a b : ℕ) → (a < b) ⊎ (b < a) → nat_eq a b ≡ false
not_equal a b apart = grind (arith, nat_tests)

module _ (xs : List ℕ) (rising : IsStrictlyIncreasing xs) (q : ℕ) where
  never_falls : (i j : ℕ) → i ≤ j → j < length xs → get_or xs i 0 ≤ get_or xs j 0
  never_falls i j le lt = elim (eq-or-lt_of_le le) [ inl same ↦ omega (arith, ap (λ k. get_or xs k 0) same) | inr below ↦ omega (arith, AllPairs-from_increasing xs rising i j 0 below lt) ]

  -- what a binary search finds of a group
  pub is_ok-searched : (r : Result ℕ ℕ) → IsBinarySearchResult (λ y. nat_cmp y q) xs r → is_ok r ≡ list_any (λ y. nat_eq y q) xs
  is_ok-searched (Ok i) result =
      let found = searched xs q (Ok i) result never_falls in
      sym (list_any_at (λ y. nat_eq y q) xs i 0 found.0 (eq-eqb _ _ found.1))
  is_ok-searched (Err i) result =
      let absent = searched xs q (Err i) result never_falls in
      sym (list_any_none (λ y. nat_eq y q) xs (All-from_get_or (λ y. nat_eq y q ≡ false) xs 0 (λ k lt. apart k lt absent)))
    where
      apart : (k : ℕ) → k < length xs → (i ≤ length xs) × ((k : ℕ) → k < i → get_or xs k 0 < q) × ((k : ℕ) → i ≤ k → k < length xs → q < get_or xs k 0) → nat_eq (get_or xs k 0) q ≡ false
      apart k lt absent = elim (cases_lt k i) [ inl before ↦ not_equal _ _ (inl (absent.1 k before)) | inr after ↦ not_equal _ _ (inr (absent.2 k after lt)) ]
