-- Items split by a test of their pairs, and parts in two halves.
use Rattle.std.proofs.Common.{◌≡◌, ℕ, zero, suc, ◌<◌, ◌≤◌, Bool, true, false, true≢false, not, List, [], ◌∷◌, ◌++◌, length, map, filter, get_or, take, drop, refl, sym, ap, subst, ◌∙◌, arith}
use Rattle.std.proofs.Common.{append-nil, take-append-drop}
use Rattle.std.specs.List.{AllByRecursion}
use Rattle.std.specs.List.Sorted.{IsPartitionPoint, IsPartitionedBy}
use Rattle.std.proofs.lemmas.List.Elements.{filter-append}
use Rattle.kinds.specs.declared.pairs.pair.Pair.{Pair}
use Rattle.kinds.specs.declared.pairs.pair.Change.{Change}
use Rattle.kinds.specs.PairSets.{is_before, AreRising, pairs_named}
use Rattle.kinds.specs.PairParts.{AreBefore, AreFrom, AreSplit}
use Rattle.kinds.proofs.PairOrder.{before_trans}
use Rattle.kinds.proofs.PairLists.{filter_all, filter_none}

module _ {A : Type 0} (f : A → Pair) where
  all_at : (P : Pair → Type 0) (xs : List A) → AllByRecursion P (map f xs) → (i : ℕ) (d : A) → i < length xs → P (f (get_or xs i d))
  all_at P [] h i d lt = absurd (omega arith)
  all_at P (x ∷ xs) h zero d lt = h.0
  all_at P (x ∷ xs) h (suc i) d lt = all_at P xs h.1 i d (omega arith)

  -- where items rise by their pairs, those that pass a test that no later pair passes alone come first
  pub parted : (t : Pair → Bool) → ((p q : Pair) → is_before p q ≡ true → t q ≡ true → t p ≡ true) → (xs : List A) → AreRising (map f xs) → IsPartitionedBy (λ x. t (f x)) xs
  parted t falls [] h i j d le lt is = absurd (omega arith)
  parted t falls (x ∷ xs) h zero zero d le lt is = is
  parted t falls (x ∷ xs) h zero (suc j) d le lt is = falls (f x) (f (get_or xs j d)) (all_at (λ q. is_before (f x) q ≡ true) xs h.0 j d (omega arith)) is
  parted t falls (x ∷ xs) h (suc i) zero d le lt is = absurd (omega arith)
  parted t falls (x ∷ xs) h (suc i) (suc j) d le lt is = parted t falls xs h.1 i j d (omega arith) (omega arith) is

  pub all_take : (P : Pair → Type 0) (xs : List A) (n : ℕ) → ((k : ℕ) (d : A) → k < n → k < length xs → P (f (get_or xs k d))) → AllByRecursion P (map f (take n xs))
  all_take P [] zero h = tt
  all_take P [] (suc n) h = tt
  all_take P (x ∷ xs) zero h = tt
  all_take P (x ∷ xs) (suc n) h = (h 0 x (omega arith) (omega arith), all_take P xs n (λ k d a b. h (suc k) d (omega arith) (omega arith)))

  pub all_drop : (P : Pair → Type 0) (xs : List A) (n : ℕ) → ((k : ℕ) (d : A) → n ≤ k → k < length xs → P (f (get_or xs k d))) → AllByRecursion P (map f (drop n xs))
  all_drop P [] zero h = tt
  all_drop P [] (suc n) h = tt
  all_drop P (x ∷ xs) zero h = (h 0 x (omega arith) (omega arith), all_drop P xs zero (λ k d a b. h (suc k) d (omega arith) (omega arith)))
  all_drop P (x ∷ xs) (suc n) h = all_drop P xs n (λ k d a b. h (suc k) d (omega arith) (omega arith))

pub map_same : (xs : List Pair) → map (λ p. p) xs ≡ xs
map_same [] = refl
map_same (x ∷ xs) = ap (λ l. x ∷ l) (map_same xs)

-- what passes a test where all of the front do and none of the rest
pub filter_front : (t : Pair → Bool) (xs : List Pair) (n : ℕ) → AllByRecursion (λ p. t p ≡ true) (take n xs) → AllByRecursion (λ p. t p ≡ false) (drop n xs) → take n xs ≡ filter t xs
filter_front t xs n h k =
    sym (ap (filter t) (sym (take-append-drop n xs)) ∙ filter-append t (take n xs) (drop n xs) ∙ (λ i. filter_all t (take n xs) h i ++ filter_none t (drop n xs) k i) ∙ append-nil (take n xs))

pub filter_back : (t : Pair → Bool) (xs : List Pair) (n : ℕ) → AllByRecursion (λ p. t p ≡ false) (take n xs) → AllByRecursion (λ p. t p ≡ true) (drop n xs) → drop n xs ≡ filter t xs
filter_back t xs n h k =
    sym (ap (filter t) (sym (take-append-drop n xs)) ∙ filter-append t (take n xs) (drop n xs) ∙ (λ i. filter_none t (take n xs) h i ++ filter_all t (drop n xs) k i))

pub falls_before : (m p q : Pair) → is_before p q ≡ true → is_before q m ≡ true → is_before p m ≡ true
falls_before m p q lt h = before_trans p q m lt h

not_true : (b : Bool) → not b ≡ true → b ≡ false
not_true true h = sym h
not_true false h = refl

not_false : (b : Bool) → not b ≡ false → b ≡ true
not_false true h = refl
not_false false h = sym h

pub falls_up_to : (m p q : Pair) → is_before p q ≡ true → not (is_before m q) ≡ true → not (is_before m p) ≡ true
falls_up_to m p q lt h = by (is_before m p) refl
  where
    by : (b : Bool) → is_before m p ≡ b → not b ≡ true
    by false e = refl
    by true e = absurd (true≢false (sym (before_trans m p q e lt) ∙ not_true _ h))

pub parted_pairs : (t : Pair → Bool) → ((p q : Pair) → is_before p q ≡ true → t q ≡ true → t p ≡ true) → (xs : List Pair) → AreRising xs → IsPartitionedBy t xs
parted_pairs t falls xs h = parted (λ p. p) t falls xs (subst AreRising (sym (map_same xs)) h)

-- the pairs before a place, where a test stops to hold
pub point_front : (t : Pair → Bool) (xs : List Pair) (n : ℕ) → IsPartitionPoint (λ p. t p ≡ true) (λ p. t p ≡ false) xs n → take n xs ≡ filter t xs
point_front t xs n h =
    filter_front t xs n
    (subst (AllByRecursion (λ p. t p ≡ true)) (map_same (take n xs)) (all_take (λ p. p) (λ p. t p ≡ true) xs n (λ k d a b. h.0 k d (omega arith) a)))
    (subst (AllByRecursion (λ p. t p ≡ false)) (map_same (drop n xs)) (all_drop (λ p. p) (λ p. t p ≡ false) xs n (λ k d a b. h.1 k d a b)))

pub point_back : (t : Pair → Bool) (xs : List Pair) (n : ℕ) → IsPartitionPoint (λ p. not (t p) ≡ true) (λ p. not (t p) ≡ false) xs n → drop n xs ≡ filter t xs
point_back t xs n h =
    filter_back t xs n
    (subst (AllByRecursion (λ p. t p ≡ false)) (map_same (take n xs)) (all_take (λ p. p) (λ p. t p ≡ false) xs n (λ k d a b. not_true _ (h.0 k d (omega arith) a))))
    (subst (AllByRecursion (λ p. t p ≡ true)) (map_same (drop n xs)) (all_drop (λ p. p) (λ p. t p ≡ true) xs n (λ k d a b. not_false _ (h.1 k d a b))))

pub split_named : (m : Pair) (cs first last : List Change) (n : ℕ) → first ≡ take n cs → last ≡ drop n cs
    → IsPartitionPoint (λ c. is_before c.pair m ≡ true) (λ c. is_before c.pair m ≡ false) cs n → AreSplit m first last cs
split_named m cs first last n is_first is_last h = record {
  joined = (λ i. is_first i ++ is_last i) ∙ take-append-drop n cs;
  before = subst (λ l. AreBefore m (pairs_named l)) (sym is_first) (all_take (λ c. c.pair) (λ p. is_before p m ≡ true) cs n (λ k d a b. h.0 k d (omega arith) a));
  from = subst (λ l. AreFrom m (pairs_named l)) (sym is_last) (all_drop (λ c. c.pair) (λ p. is_before p m ≡ false) cs n (λ k d a b. h.1 k d a b));
}
