-- Maps of the same paths whose kinds have other nodes.
use Rattle.std.specs.Prelude.{◌≡◌, ◌<◌, ◌+◌, ◌*◌, ◌++◌, ℕ, zero, suc, nat_lt, Bool, List, [], ◌∷◌, map, Option, Some, None, option_map, if◌then◌else◌}
use Rattle.std.specs.List.{sum_by}
use Rattle.std.specs.Option.{option_map_or}
use Rattle.acl_names.specs.Paths.{PathOf}
use Rattle.kinds.specs.Kinds.{KindsOf, node_at, count_at}

-- entries with what their nodes become
abbrev pub renewed : {N M : Type 0} → (N → M) → List (PathOf × N) → List (PathOf × M)
renewed f es = map (λ e. (e.0, f e.1)) es

-- what counts for entries, each by its node
abbrev pub weight_of : {N : Type 0} → (N → ℕ) → List (PathOf × N) → ℕ
weight_of w es = sum_by (λ e. w e.1) es

-- one for each path whose node passes a test
abbrev pub one_where : {N : Type 0} → (N → Bool) → N → ℕ
one_where test x = if test x then 1 else 0

-- what a node becomes that passes a test; another one stays
abbrev pub changed_where : {N : Type 0} → (N → Bool) → (N → N) → N → N
changed_where test f x = if test x then f x else x

-- ---- by numbers

-- what a node becomes, if at least one path has it
abbrev pub renewed_if : {N M : Type 0} → (N → M) → Option N → ℕ → Option M
renewed_if f None paths = None
renewed_if f (Some x) paths = if nat_lt 0 paths then Some (f x) else None

-- what the nodes of the first numbers become
abbrev pub renewed_before : {N M : Type 0} → (N → M) → KindsOf N → ℕ → List (Option M)
renewed_before f k zero = []
renewed_before f k (suc n) = renewed_before f k n ++ renewed_if f (node_at k n) (count_at k n) ∷ []

-- counts of the first numbers
abbrev pub counts_before : {N : Type 0} → KindsOf N → ℕ → List ℕ
counts_before k zero = []
counts_before k (suc n) = counts_before k n ++ count_at k n ∷ []

-- what counts for the paths of a number
abbrev pub weight_at : {N : Type 0} → (N → ℕ) → KindsOf N → ℕ → ℕ
weight_at w k n = count_at k n * option_map_or w (node_at k n) 0

-- what counts for those of the first numbers
abbrev pub weight_before : {N : Type 0} → (N → ℕ) → KindsOf N → ℕ → ℕ
weight_before w k zero = 0
weight_before w k (suc n) = weight_before w k n + weight_at w k n

-- numbers that paths have, have what their nodes become; counts are the same
pub record Renews {N M : Type 0} (f : N → M) (old : KindsOf N) (new : KindsOf M) : Type 0 where
  pub nodes : (n : ℕ) → 0 < count_at old n → node_at new n ≡ option_map f (node_at old n)
  pub counts : (n : ℕ) → count_at new n ≡ count_at old n
