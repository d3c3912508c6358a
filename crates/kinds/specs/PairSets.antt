-- Sets of pairs of numbers: lists of pairs that rise.
use Rattle.std.specs.Prelude.{◌≡◌, ⊤, ℕ, Bool, true, ltb, eqb, ◌&&◌, ◌||◌, List, [], ◌∷◌, map, filter, cond}
use Rattle.std.specs.List.{list_any, AllByRecursion}
use Rattle.kinds.specs.declared.pairs.pair.Pair.{Pair}
use Rattle.kinds.specs.declared.pairs.pair.Change.{Change}

-- a pair is before another one by its first number, or by its second one where the first ones are equal
abbrev pub is_before : Pair → Pair → Bool
is_before p q = ltb p.first q.first || (eqb p.first q.first && ltb p.second q.second)

abbrev pub is_same : Pair → Pair → Bool
is_same p q = eqb p.first q.first && eqb p.second q.second

-- a pair is before all others
abbrev pub AreAfter : Pair → List Pair → Type 0
AreAfter p ps = AllByRecursion (λ q. is_before p q ≡ true) ps

-- each pair is before all those after it
abbrev pub AreRising : List Pair → Type 0
AreRising [] = ⊤
AreRising (p ∷ ps) = AreAfter p ps × AreRising ps

-- whether a pair is among others
abbrev pub has : Pair → List Pair → Bool
has p ps = list_any (λ q. is_same q p) ps

-- the second numbers of the pairs with a first one
abbrev pub seconds_of : ℕ → List Pair → List ℕ
seconds_of n ps = map (λ p. p.second) (filter (λ p. eqb p.first n) ps)

-- the pairs of some first numbers and a second one
abbrev pub tagged_pairs : List ℕ → ℕ → List Pair
tagged_pairs tags n = map (λ tag. record { first = tag; second = n }) tags

-- the pairs of changes
abbrev pub pairs_named : List Change → List Pair
pairs_named cs = map (λ c. c.pair) cs

-- whether a pair is in a set after changes: as its change says, if there is one, and else as before
abbrev pub is_there : Pair → List Change → Bool → Bool
is_there p [] was = was
is_there p (c ∷ cs) was = cond (is_same c.pair p) c.is_put (is_there p cs was)
