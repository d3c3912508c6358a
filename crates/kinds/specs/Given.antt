-- Nodes of numbers that paths have, and other nodes in their place.
use Rattle.std.specs.Prelude.{ℕ, nat_lt, List, [], map, Option, None, option_map, if◌then◌else◌}
use Rattle.std.specs.declared.rc.Rc.{Rc}
use Rattle.kinds.specs.Kinds.{KindsOf, node_at, count_at}
use Rattle.kinds.specs.Numbered.{Numbers, AreUsed}

-- the node of a number, if paths have the number
abbrev pub used_at : {N : Type 0} → KindsOf N → ℕ → Option N
used_at k n = if nat_lt 0 (count_at k n) then node_at k n else None

-- the nodes that are shared
abbrev pub shared_nodes : {N Z : Type 0} → List (Option (Rc N Z)) → List (Option N)
shared_nodes nodes = map (option_map (λ r. r.value)) nodes

-- each number that paths have has a node in a list
abbrev pub HaveNodes : {N : Type 0} → List (Option N) → Numbers → Type 0
HaveNodes nodes ns = AreUsed (nodes, []) ns
