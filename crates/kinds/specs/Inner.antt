-- For inner functions. Few public contracts name one of these definitions.
use Rattle.std.specs.Prelude.{◌≡◌, ◌<◌, ◌≤◌, ℕ, ◌+◌, ◌-◌, ◌==◌, if◌then◌else◌, List, [], ◌∷◌, map, Option, Some, None}
use Rattle.std.specs.List.{AllByRecursion}
use Rattle.std.specs.FinMap.{find}
use Rattle.acl_names.specs.Paths.{path_cmp, PathOf}
use Rattle.kinds.specs.Kinds.{KindsOf, node_at, count_at, IsNode}
use Rattle.kinds.specs.Numbered.{Numbers, entries_by, one_if, paths_with, AreUsed}

-- each node is there still
abbrev pub Extends : {N : Type 0} → KindsOf N → KindsOf N → Type 0
Extends {N} old new = (n : ℕ) (x : N) → node_at old n ≡ Some x → node_at new n ≡ Some x

abbrev pub paths_in : Numbers → List PathOf
paths_in ns = map (λ e. e.0) ns

-- entries are those of a map
abbrev pub AreAmong : Numbers → Numbers → Type 0
AreAmong ns es = AllByRecursion (λ e. find path_cmp e.0 ns ≡ Some e.1) es

-- a path that is found has a number
abbrev pub found_if : ℕ → Option ℕ → ℕ
found_if n None = 0
found_if n (Some m) = one_if n m

-- how many of some paths, that were looked up, have a number
abbrev pub found_with : ℕ → List (Option ℕ) → ℕ
found_with n [] = 0
found_with n (o ∷ os) = found_if n o + found_with n os

-- nodes were added for some paths, each for one
pub record AddsAll {N : Type 0} (old : KindsOf N) (puts : List (PathOf × N)) (new : KindsOf N) (entries : Numbers) : Type 0 where
  pub extends : Extends old new
  pub counts : (n : ℕ) → count_at new n ≡ count_at old n + paths_with n entries
  pub used : AreUsed new entries
  pub made : entries_by new entries ≡ puts

-- the paths that were found are taken from the counts of their numbers
pub record ReleasesAll {N : Type 0} (old : KindsOf N) (found : List (Option ℕ)) (new : KindsOf N) : Type 0 where
  pub nodes : (n : ℕ) → 0 < count_at new n → node_at new n ≡ node_at old n
  pub counts : (n : ℕ) → count_at new n ≡ count_at old n - found_with n found

-- a node has this number, and no path is counted for it
pub record HasNumber {N : Type 0} (old : KindsOf N) (x : N) (at : ℕ) (new : KindsOf N) : Type 0 where
  pub extends : Extends old new
  pub counts : (n : ℕ) → count_at new n ≡ count_at old n
  pub here : node_at new at ≡ Some x

-- the number of paths with the number n that are not counted: pending, if n is the last number
abbrev pub pending_at : ℕ → ℕ → ℕ → ℕ
pending_at n last pending = if n == last then pending else 0

-- a further path has a number: `count` of its paths are not counted, if `pending` paths of the last number were not
pub record CountsRun {N : Type 0} (old : KindsOf N) (last pending number : ℕ) (new : KindsOf N) (count : ℕ) : Type 0 where
  pub nodes : (n : ℕ) → node_at new n ≡ node_at old n
  pub counts : (n : ℕ) → count_at new n + pending_at n number count ≡ (count_at old n + pending_at n last pending) + one_if n number

-- a number for a further path: `count` of the paths that got it are not counted, if `pending` paths of the last number were not
pub record GivesNumber {N : Type 0} (old : KindsOf N) (last pending : ℕ) (x : N) (number : ℕ) (new : KindsOf N) (count : ℕ) : Type 0 where
  pub between : KindsOf N
  pub has : HasNumber old x number between
  pub run : CountsRun between last pending number new count

-- nodes were added for some paths, of which some are not counted
pub record AddsBut {N : Type 0} (old : KindsOf N) (puts : List (PathOf × N)) (new : KindsOf N) (entries : Numbers) (last pending : ℕ) : Type 0 where
  pub extends : Extends old new
  pub counts : (n : ℕ) → count_at new n + pending_at n last pending ≡ count_at old n + paths_with n entries
  pub used : AreUsed new entries
  pub made : entries_by new entries ≡ puts
  pub there : 0 < pending → IsNode new last

-- a path that was found is taken from the count of its number: `count` of the paths that lost it are still counted, if
-- `pending` paths of the last number were
pub record ReleasesRun {N : Type 0} (old : KindsOf N) (last pending : ℕ) (found : Option ℕ) (new : KindsOf N) (number count : ℕ) : Type 0 where
  pub nodes : (n : ℕ) → 0 < count_at new n → node_at new n ≡ node_at old n
  pub fewer : (n : ℕ) → count_at new n ≤ count_at old n
  pub counts : (n : ℕ) → count_at new n - pending_at n number count ≡ (count_at old n - pending_at n last pending) - found_if n found

-- the paths that were found are taken from the counts of their numbers, but for some that are still counted
pub record ReleasesBut {N : Type 0} (old : KindsOf N) (found : List (Option ℕ)) (new : KindsOf N) (last pending : ℕ) : Type 0 where
  pub nodes : (n : ℕ) → 0 < count_at new n → node_at new n ≡ node_at old n
  pub counts : (n : ℕ) → count_at new n - pending_at n last pending ≡ count_at old n - found_with n found
