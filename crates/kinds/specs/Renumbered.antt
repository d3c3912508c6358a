-- Nodes in the place of others, and paths with other numbers.
use Rattle.std.specs.Prelude.{◌≡◌, ◌<◌, ℕ, ◌==◌, map, Some, if◌then◌else◌}
use Rattle.path_map.specs.Merged.{merged}
use Rattle.kinds.specs.Kinds.{KindsOf, node_at, count_at}
use Rattle.kinds.specs.Numbered.{Kept, Numbers, AreSound}

-- a number has another node, and all else is as it was
pub record Replaces {N : Type 0} (old : KindsOf N) (x : N) (at : ℕ) (new : KindsOf N) : Type 0 where
  pub nodes : (n : ℕ) → node_at new n ≡ (if n == at then Some x else node_at old n)
  pub counts : (n : ℕ) → count_at new n ≡ count_at old n

-- both have the same paths
abbrev pub SamePaths : Numbers → Numbers → Type 0
SamePaths ms ns = map (λ e. e.0) ns ≡ map (λ e. e.0) ms

-- a map has these numbers and nodes
pub record IsRenumbered {N : Type 0} (k : KindsOf N) (ns : Numbers) (new : Kept N) : Type 0 where
  pub numbers : new.1 ≡ ns
  pub nodes : (n : ℕ) → node_at new.0 n ≡ node_at k n

-- a map where some paths have other numbers and some are gone; nodes of numbers that paths have stay
pub record IsPut {N : Type 0} (old : Kept N) (k : KindsOf N) (puts gone : Numbers) (new : Kept N) : Type 0 where
  pub numbers : new.1 ≡ merged puts gone old.1
  pub nodes : (n : ℕ) → 0 < count_at new.0 n → node_at new.0 n ≡ node_at k n
  pub sound : AreSound new.0 new.1
