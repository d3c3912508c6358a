-- Entries by numbers: paths with the nodes of their numbers, in path order.
use Rattle.std.specs.Prelude.{◌≡◌, ℕ, ◌+◌, ◌==◌, List, [], ◌∷◌, Option, Some, None, if◌then◌else◌}
use Rattle.std.specs.List.{AllByRecursion}
use Rattle.acl_names.specs.Paths.{PathOf}
use Rattle.path_map.specs.Entries.{IsInOrder}
use Rattle.kinds.specs.Kinds.{KindsOf, node_at, count_at, IsNode}

-- for each path a number
abbrev pub Numbers : Type 0
Numbers = List (PathOf × ℕ)

-- an entry, if its number has a node, before others
abbrev pub with_node : {N : Type 0} → PathOf → Option N → List (PathOf × N) → List (PathOf × N)
with_node p None es = es
with_node p (Some x) es = (p, x) ∷ es

-- the entries of numbers
abbrev pub entries_by : {N : Type 0} → KindsOf N → Numbers → List (PathOf × N)
entries_by k [] = []
entries_by k (e ∷ ns) = with_node e.0 (node_at k e.1) (entries_by k ns)

abbrev pub one_if : ℕ → ℕ → ℕ
one_if n m = if m == n then 1 else 0

-- how many paths have a number
abbrev pub paths_with : ℕ → Numbers → ℕ
paths_with n [] = 0
paths_with n (e ∷ ns) = one_if n e.1 + paths_with n ns

-- each number has a node
abbrev pub AreUsed : {N : Type 0} → KindsOf N → Numbers → Type 0
AreUsed k ns = AllByRecursion (λ e. IsNode k e.1) ns

-- paths in order, whose numbers have nodes, and for each number the count of its paths
pub record AreSound {N : Type 0} (k : KindsOf N) (ns : Numbers) : Type 0 where
  pub order : IsInOrder ns
  pub used : AreUsed k ns
  pub counted : (n : ℕ) → count_at k n ≡ paths_with n ns

-- a map by kinds: its nodes by numbers, and its paths with their numbers
abbrev pub Kept : Type 0 → Type 0
Kept N = KindsOf N × Numbers

-- what it is seen as: paths with nodes
abbrev pub entries_in : {N : Type 0} → Kept N → List (PathOf × N)
entries_in kept = entries_by kept.0 kept.1
