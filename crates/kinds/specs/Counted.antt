-- Counts of paths by number. For inner functions: no public contract names these definitions.
use Rattle.std.specs.Prelude.{◌≡◌, ◌<◌, ℕ, ◌+◌, ◌-◌, List, Option, length, get_or}
use Rattle.kinds.specs.Kinds.{KindsOf, node_at, count_at, IsNode}
use Rattle.kinds.specs.Numbered.{Numbers, paths_with, AreUsed}
use Rattle.kinds.specs.Inner.{Extends, found_if, found_with, pending_at}

-- the count of a number, if any, grows by one path, if the number is counted
pub record CountsOne (old : List ℕ) (number : Option ℕ) (new : List ℕ) : Type 0 where
  pub long : length new ≡ length old
  pub counts : (n : ℕ) → n < length old → get_or new n 0 ≡ get_or old n 0 + found_if n number

-- a table has, for each number below `numbers`, how many looked-up paths have it
pub record CountsFound (numbers : ℕ) (found : List (Option ℕ)) (table : List ℕ) : Type 0 where
  pub long : length table ≡ numbers
  pub counts : (n : ℕ) → n < numbers → get_or table n 0 ≡ found_with n found

-- each number has fewer paths, by the table `fewer`
pub record ReleasesEach {N : Type 0} (old : KindsOf N) (fewer : List ℕ) (new : KindsOf N) : Type 0 where
  pub nodes : (n : ℕ) → 0 < count_at new n → node_at new n ≡ node_at old n
  pub counts : (n : ℕ) → count_at new n ≡ count_at old n - get_or fewer n 0

-- a table has, for each number below `numbers`, how many paths of entries have it
pub record CountsPaths (numbers : ℕ) (entries : Numbers) (table : List ℕ) : Type 0 where
  pub long : length table ≡ numbers
  pub counts : (n : ℕ) → n < numbers → get_or table n 0 ≡ paths_with n entries

-- each number that paths get has a node
abbrev pub AreNodes : {N : Type 0} → KindsOf N → List ℕ → Type 0
AreNodes k table = (n : ℕ) → 0 < get_or table n 0 → IsNode k n

-- each number has more paths, by the table `more`
pub record GrantsEach {N : Type 0} (old : KindsOf N) (more : List ℕ) (new : KindsOf N) : Type 0 where
  pub nodes : (n : ℕ) → node_at new n ≡ node_at old n
  pub counts : (n : ℕ) → count_at new n ≡ count_at old n + get_or more n 0

-- some paths are counted
pub record CountsAll {N : Type 0} (old : KindsOf N) (entries : Numbers) (new : KindsOf N) : Type 0 where
  pub nodes : (n : ℕ) → node_at new n ≡ node_at old n
  pub counts : (n : ℕ) → count_at new n ≡ count_at old n + paths_with n entries

-- some paths are counted but for the last ones
pub record CountsBut {N : Type 0} (old : KindsOf N) (entries : Numbers) (new : KindsOf N) (last pending : ℕ) : Type 0 where
  pub nodes : (n : ℕ) → node_at new n ≡ node_at old n
  pub counts : (n : ℕ) → count_at new n + pending_at n last pending ≡ count_at old n + paths_with n entries
  pub there : 0 < pending → IsNode new last

-- nodes were added for some paths, none of which is counted
pub record AddsUncounted {N : Type 0} (old new : KindsOf N) (entries : Numbers) : Type 0 where
  pub extends : Extends old new
  pub counts : (n : ℕ) → count_at new n ≡ count_at old n
  pub used : AreUsed new entries
