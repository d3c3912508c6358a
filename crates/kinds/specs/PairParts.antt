-- For inner functions: no public contract names these definitions.
use Rattle.std.specs.Prelude.{◌≡◌, ◌<◌, true, false, List, [], ◌∷◌, ◌++◌, length, filter, flat_map, cond}
use Rattle.std.specs.List.{AllByRecursion}
use Rattle.std.specs.declared.rc.Rc.{Rc}
use Rattle.kinds.specs.declared.pairs.pair.Pair.{Pair}
use Rattle.kinds.specs.declared.pairs.pair.Change.{Change}
use Rattle.kinds.specs.PairSets.{is_before, pairs_named}

-- the pairs of shared parts, one part after another
abbrev pub pairs_in : {A Z : Type 0} → (A → List Pair) → List (Rc A Z) → List Pair
pairs_in f parts = flat_map (λ part. f part.value) parts

-- the pairs with some put and others taken out
abbrev pub changed : List Change → List Pair → List Pair
changed [] ps = ps
changed (c ∷ cs) ps =
    filter (λ p. is_before p c.pair) ps
    ++ (cond c.is_put (c.pair ∷ []) [] ++ changed cs (filter (λ p. is_before c.pair p) ps))

-- all of them are before a pair
abbrev pub AreBefore : Pair → List Pair → Type 0
AreBefore p ps = AllByRecursion (λ q. is_before q p ≡ true) ps

-- none of them is before a pair
abbrev pub AreFrom : Pair → List Pair → Type 0
AreFrom p ps = AllByRecursion (λ q. is_before q p ≡ false) ps

-- changes of pairs before a pair, and others, are all changes
pub record AreSplit (p : Pair) (first last all : List Change) : Type 0 where
  pub joined : first ++ last ≡ all
  pub before : AreBefore p (pairs_named first)
  pub from : AreFrom p (pairs_named last)

-- some parts, whose pairs are before a pair, and some others are all parts
pub record AreHalves {A : Type 0} (f : A → List Pair) (p : Pair) (left right all : List A) : Type 0 where
  pub joined : flat_map f left ++ flat_map f right ≡ flat_map f all
  pub before : AreBefore p (flat_map f left)
  pub from : AreFrom p (flat_map f right)
  pub some_left : 0 < length left
  pub some_right : 0 < length right
  pub less_left : length left < length all
  pub less_right : length right < length all
