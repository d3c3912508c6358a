-- Pairs that were sorted, of which each is kept once.
use Rattle.std.proofs.Common.{◌≡◌, true, List, [], ◌∷◌, Ordering, Less, arith}
use Rattle.std.specs.Ordering.{nat_cmp, ordering_then, eq_by_cmp}
use Rattle.std.specs.Cmp.{IsTotalOrder}
use Rattle.std.specs.List.{dedup}
use Rattle.std.specs.List.Sorted.{IsSorted, IsStrictlySortedBy}
use Rattle.std.proofs.lemmas.Cmp.{nat_cmp_total, on_total, then_total}
use Rattle.std.proofs.lemmas.List.Kept.{IsStrictlySortedBy-dedup}
use Rattle.kinds.specs.declared.pairs.pair.Pair.{Pair}
use Rattle.kinds.specs.PairSets.{is_before, is_same, AreRising, has}
use Rattle.kinds.proofs.Deduped.{any-dedup}
use Rattle.kinds.proofs.PairLists.{all_weaker}
use Rattle.kinds.proofs.PairOrder.{same_pair}

abbrev pub pair_cmp : Pair → Pair → Ordering
pair_cmp p q = ordering_then (nat_cmp p.first q.first) (nat_cmp p.second q.second)

pair_total : IsTotalOrder pair_cmp
pair_total = then_total (on_total (λ (p : Pair). p.first) nat_cmp_total) (on_total (λ (p : Pair). p.second) nat_cmp_total)

ties : (p q : Pair) → is_same p q ≡ eq_by_cmp pair_cmp p q
ties p q = grind arith

less_before : (p q : Pair) → pair_cmp p q ≡ Less → is_before p q ≡ true
less_before p q h = grind (arith, h)

rising_of : (ps : List Pair) → IsStrictlySortedBy pair_cmp ps → AreRising ps
unfolding IsStrictlySortedBy
rising_of [] h = tt
rising_of (p ∷ ps) h = (all_weaker (λ q. pair_cmp p q ≡ Less) (λ q. is_before p q ≡ true) (λ q. less_before p q) ps h.0, rising_of ps h.1)

pub rising-dedup : (ps : List Pair) → IsSorted pair_cmp ps → AreRising (dedup is_same ps)
rising-dedup ps h = rising_of (dedup is_same ps) (IsStrictlySortedBy-dedup pair_total ties ps h)

pub has-dedup : (p : Pair) (ps : List Pair) → has p (dedup is_same ps) ≡ has p ps
has-dedup p ps = any-dedup is_same same_pair (λ q. is_same q p) ps
