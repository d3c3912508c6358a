-- Which numbers have nodes that pass a test.
use Rattle.std.specs.Prelude.{ℕ, Bool, false, Option, if◌then◌else◌}
use Rattle.std.specs.Option.{option_map_or}
use Rattle.kinds.specs.Kinds.{KindsOf, node_at, count_at}

-- whether there is a node that passes
abbrev pub passed : {N : Type 0} → (N → Bool) → Option N → Bool
passed test o = option_map_or test o false

-- how many paths have a number, if its node passes
abbrev pub count_passed : {N : Type 0} → (N → Bool) → KindsOf N → ℕ → ℕ
count_passed test k n = if passed test (node_at k n) then count_at k n else 0
