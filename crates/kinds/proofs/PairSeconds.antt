-- The second numbers of the pairs with a first one.
use Rattle.std.proofs.Common.{◌≡◌, ℕ, ◌<◌, ◌≢◌, inl, inr, true, false, eqb, List, [], ◌++◌, map, filter, ap, ◌∙◌, arith}
use Rattle.std.specs.List.{AllByRecursion}
use Rattle.std.proofs.lemmas.List.{map-append}
use Rattle.std.proofs.lemmas.List.Elements.{filter-append}
use Rattle.std.proofs.lemmas.Bool.Decides.{eqb_tells}
use Rattle.kinds.specs.declared.pairs.pair.Pair.{Pair}
use Rattle.kinds.specs.PairSets.{is_before, seconds_of}
use Rattle.kinds.specs.PairParts.{AreBefore, AreFrom}
use Rattle.kinds.proofs.PairOrder.{Less, NotLess, less, not_less}
use Rattle.kinds.proofs.PairLists.{all_weaker, filter_none}

pub seconds_join : (n : ℕ) (xs ys : List Pair) → seconds_of n (xs ++ ys) ≡ seconds_of n xs ++ seconds_of n ys
seconds_join n xs ys =
    ap (λ l. map (λ p. p.second) l) (filter-append (λ p. eqb p.first n) xs ys)
    ∙ map-append (λ p. p.second) (filter (λ p. eqb p.first n) xs) (filter (λ p. eqb p.first n) ys)

other : (m n : ℕ) → m ≢ n → eqb m n ≡ false
other m n h = elim (eqb_tells m n) [ inl t ↦ absurd (h t.1) | inr t ↦ t.0 ]

no_seconds : (n : ℕ) (xs : List Pair) → AllByRecursion (λ p. eqb p.first n ≡ false) xs → seconds_of n xs ≡ []
no_seconds n xs h = ap (λ l. map (λ p. p.second) l) (filter_none (λ p. eqb p.first n) xs h)

pub seconds_before : (n : ℕ) (m : Pair) (xs : List Pair) → AreBefore m xs → m.first < n → seconds_of n xs ≡ []
seconds_before n m xs h lt =
    no_seconds n xs (all_weaker (λ p. is_before p m ≡ true) (λ p. eqb p.first n ≡ false)
    (λ p k. let l : Less p m = less p m k in other p.first n (λ e. absurd (omega arith))) xs h)

pub seconds_from : (n : ℕ) (m : Pair) (xs : List Pair) → AreFrom m xs → n < m.first → seconds_of n xs ≡ []
seconds_from n m xs h lt =
    no_seconds n xs (all_weaker (λ p. is_before p m ≡ false) (λ p. eqb p.first n ≡ false)
    (λ p k. let l : NotLess p m = not_less p m k in other p.first n (λ e. absurd (omega arith))) xs h)
