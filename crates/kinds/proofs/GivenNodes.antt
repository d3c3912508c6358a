-- Nodes that are given for the numbers of a map.
use Rattle.std.proofs.Common.{◌≡◌, ℕ, ◌<◌, Bool, true, false, cond, List, [], ◌∷◌, length, get_or, Option, Some, None, refl, ap, ◌∙◌, arith, nat_lt, ltb-true, ltb-false}
use Rattle.std.specs.Prelude.{option_map}
use Rattle.std.specs.List.{AllByRecursion}
use Rattle.kinds.specs.Kinds.{KindsOf, node_at, count_at}
use Rattle.kinds.specs.Numbered.{Numbers, with_node, entries_by, AreUsed, AreSound}
use Rattle.kinds.specs.Renewed.{renewed, renewed_if, renewed_before}
use Rattle.kinds.specs.Placed.{placed}
use Rattle.kinds.specs.Given.{used_at, HaveNodes}
use Rattle.kinds.proofs.Numbers.{node_within}
use Rattle.kinds.proofs.Counts.{counted_all}
use Rattle.kinds.proofs.Renewals.{some_renewed, renewed_read, entries_renewed}

-- ---- the nodes of numbers that paths have

pub used_some : {N : Type 0} (k : KindsOf N) (n : ℕ) → 0 < count_at k n → used_at k n ≡ node_at k n
used_some k n some = by (nat_lt 0 (count_at k n)) refl
  where
    by : (b : Bool) → nat_lt 0 (count_at k n) ≡ b → cond b (node_at k n) None ≡ node_at k n
    by true is = refl
    by false is = absurd (let ge = ltb-false _ _ is in omega (arith, some, ge))

pub used_none : {N : Type 0} (k : KindsOf N) (n : ℕ) → count_at k n ≡ 0 → used_at k n ≡ None
used_none k n none = by (nat_lt 0 (count_at k n)) refl
  where
    by : (b : Bool) → nat_lt 0 (count_at k n) ≡ b → cond b (node_at k n) None ≡ None
    by true is = absurd (let lt = ltb-true _ _ is in omega (arith, none, lt))
    by false is = refl

-- what they become
pub used_renewed : {N M : Type 0} (f : N → M) (k : KindsOf N) (n : ℕ) → renewed_if f (node_at k n) (count_at k n) ≡ option_map f (used_at k n)
used_renewed f k n = by (node_at k n) (nat_lt 0 (count_at k n)) refl
  where
    by : (o : Option _) (b : Bool) → nat_lt 0 (count_at k n) ≡ b → renewed_if f o (count_at k n) ≡ option_map f (cond b o None)
    by None true is = refl
    by None false is = refl
    by (Some x) true is = ap (λ b. cond b (Some (f x)) None) is
    by (Some x) false is = ap (λ b. cond b (Some (f x)) None) is

-- ---- a list of nodes in the place of these

module _ {N M : Type 0} (k : KindsOf N) (nodes : List (Option M)) where
  pub given_sound : (ns : Numbers) → AreSound k ns → HaveNodes nodes ns → AreSound (nodes, k.1) ns
  given_sound ns sound have = record { order = sound.order; used = have; counted = sound.counted }

pub entries_given : {M : Type 0} (nodes : List (Option M)) (counts : List ℕ) (ns : Numbers) → renewed (λ x. x) (entries_by (nodes, counts) ns) ≡ placed nodes ns
entries_given nodes counts [] = refl
entries_given {M} nodes counts (e ∷ ns) = by (get_or nodes e.1 None) (entries_given nodes counts ns)
  where
    by : (o : Option M) → renewed (λ x. x) (entries_by (nodes, counts) ns) ≡ placed nodes ns → renewed (λ x. x) (with_node e.0 o (entries_by (nodes, counts) ns)) ≡ with_node e.0 o (placed nodes ns)
    by None rest = rest
    by (Some x) rest = ap (λ es. (e.0, x) ∷ es) rest

-- ---- where each is what the node of its number becomes

module _ {N M : Type 0} (f : N → M) (k : KindsOf N) where
  are : (ns : Numbers) → AreUsed k ns → AllByRecursion (λ e. 0 < count_at k e.1) ns
      → AllByRecursion (λ e. node_at {N = M} (renewed_before f k (length k.0), []) e.1 ≡ option_map f (node_at k e.1)) ns
  are [] used some = tt
  are (e ∷ ns) used some =
      (renewed_read f k (length k.0) e.1 (node_within k.0 e.1 used.0.0 used.0.1) ∙ some_renewed f k (node_at k e.1) (count_at k e.1) some.0, are ns used.1 some.1)

  have : (ns : Numbers) → AreUsed k ns → AllByRecursion (λ e. node_at {N = M} (renewed_before f k (length k.0), []) e.1 ≡ option_map f (node_at k e.1)) ns
      → HaveNodes (renewed_before f k (length k.0)) ns
  have [] used h = tt
  have (e ∷ ns) used h = ((f used.0.0, h.0 ∙ ap (option_map f) used.0.1), have ns used.1 h.1)

  module _ (ns : Numbers) (sound : AreSound k ns) where
    all : AllByRecursion (λ e. node_at {N = M} (renewed_before f k (length k.0), []) e.1 ≡ option_map f (node_at k e.1)) ns
    all = are ns sound.used (counted_all (count_at k) ns (λ n. let same = sound.counted n in omega (arith, same)))

    pub renewed_have : HaveNodes (renewed_before f k (length k.0)) ns
    renewed_have = have ns sound.used all

    pub placed_renewed : placed (renewed_before f k (length k.0)) ns ≡ renewed f (entries_by k ns)
    placed_renewed = entries_renewed f k (renewed_before f k (length k.0), []) ns sound.used all
