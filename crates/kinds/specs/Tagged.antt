-- Nodes that have tags, numbers by which they are found.
use Rattle.std.specs.Prelude.{◌≡◌, ℕ, ◌==◌, Bool, true, false, cond, List, [], ◌∷◌, Option, Some, None, option_map, if◌then◌else◌}
use Rattle.std.specs.List.{list_any}
use Rattle.std.specs.Option.{option_map_or}
use Rattle.kinds.specs.declared.pairs.pair.Pair.{Pair}
use Rattle.kinds.specs.PairSets.{has}
use Rattle.kinds.specs.Kinds.{KindsOf, node_at, count_at}
use Rattle.kinds.specs.Given.{used_at}

-- whether a number is one of some
abbrev pub is_one : ℕ → List ℕ → Bool
is_one n ns = list_any (λ m. m == n) ns

-- whether one of some numbers is one of others
abbrev pub meets : List ℕ → List ℕ → Bool
meets ns others = list_any (λ n. is_one n others) ns

-- the tags of the node of a number, if paths have the number
abbrev pub tags_at : {N : Type 0} → (N → List ℕ) → KindsOf N → ℕ → List ℕ
tags_at tags k n = option_map_or tags (used_at k n) []

-- the pairs are exactly those of a tag and the number of a node that has it and that paths have
abbrev pub AreTagsOf : {N : Type 0} → (N → List ℕ) → KindsOf N → List Pair → Type 0
AreTagsOf tags k ps = (p : Pair) → has p ps ≡ is_one p.first (tags_at tags k p.second)

-- the nodes that paths have are the same, but for those of some numbers
abbrev pub SameBut : {N : Type 0} → List ℕ → KindsOf N → KindsOf N → Type 0
SameBut ns old new = (n : ℕ) → is_one n ns ≡ false → used_at new n ≡ used_at old n

-- the tags of the nodes that paths have are the same, but for those of some numbers
abbrev pub SameTagsBut : {N : Type 0} → (N → List ℕ) → List ℕ → KindsOf N → KindsOf N → Type 0
SameTagsBut tags ns old new = (n : ℕ) → is_one n ns ≡ false → tags_at tags new n ≡ tags_at tags old n

-- a number that had a node has one, with the same tags unless it is one of some numbers
abbrev pub KeepsTags : {N : Type 0} → (N → List ℕ) → List ℕ → KindsOf N → KindsOf N → Type 0
KeepsTags {N} tags ns old new = (n : ℕ) (x : N) → node_at old n ≡ Some x → (y : N) × ((node_at new n ≡ Some y) × (is_one n ns ≡ false → tags y ≡ tags x))

-- nodes that paths have and that have one of some tags became others; counts are the same
pub record ChangesTagged {N : Type 0} (f : N → N) (tags : N → List ℕ) (wanted : List ℕ) (old new : KindsOf N) : Type 0 where
  pub nodes : (n : ℕ) → node_at new n ≡ (if meets (tags_at tags old n) wanted then option_map f (node_at old n) else node_at old n)
  pub counts : (n : ℕ) → count_at new n ≡ count_at old n

-- the numbers that were found
abbrev pub numbers_found : List (Option ℕ) → List ℕ
numbers_found [] = []
numbers_found (None ∷ os) = numbers_found os
numbers_found (Some n ∷ os) = n ∷ numbers_found os

-- ---- for inner functions

-- a pair, which may be gone or new, is there after the change exactly where it has to be; where its number is not done yet, it
-- is neither
abbrev pub IsSettled : (done new gone was is : Bool) → Type 0
IsSettled true new gone was is = cond new true (cond gone false was) ≡ is
IsSettled false new gone was is = (new ≡ false) × (gone ≡ false)

-- each pair is
abbrev pub AreSettled : {N : Type 0} → (N → List ℕ) → KindsOf N → KindsOf N → List ℕ → (gone new : List Pair) → Type 0
AreSettled tags old k done gone new = (p : Pair) → IsSettled (is_one p.second done) (has p new) (has p gone) (is_one p.first (tags_at tags old p.second)) (is_one p.first (tags_at tags k p.second))

-- the nodes of some numbers became others; counts are the same
pub record ChangesEach {N : Type 0} (f : N → N) (done : List ℕ) (old new : KindsOf N) : Type 0 where
  pub nodes : (n : ℕ) → node_at new n ≡ (if is_one n done then option_map f (node_at old n) else node_at old n)
  pub counts : (n : ℕ) → count_at new n ≡ count_at old n

-- the numbers of the nodes that may have become others, each one of some numbers
pub record AreNoted {N : Type 0} (done : List ℕ) (old new : KindsOf N) (noted : List ℕ) : Type 0 where
  pub among : (n : ℕ) → is_one n noted ≡ true → is_one n done ≡ true
  pub same : (n : ℕ) → is_one n noted ≡ false → node_at new n ≡ node_at old n
