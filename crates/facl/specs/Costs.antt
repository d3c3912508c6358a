-- That the count of verdicts has room for each line.
use Rattle.std.specs.Prelude.{ℕ, ◌+◌, ◌*◌, ◌<◌, ◌≤◌}
use Rattle.facl_script.specs.Limits.{script_limit}
use Rattle.acl_rights.specs.Costs.{most_pairs}

-- the count leaves room for the line with this number and those after it
pub record IsReady (asked number : ℕ) : Type 0 where
  pub few : asked ≤ number * most_pairs
  pub within : number ≤ script_limit + 1

-- it is so for every line after the one with this number
abbrev pub IsReadyAfter : (asked number : ℕ) → Type 0
IsReadyAfter asked number = (n : ℕ) → number < n → n ≤ script_limit + 1 → IsReady asked n
