-- For inner functions of `below`: the counts and the first files of the sums of users, each in a list of its own.
use Rattle.std.specs.Prelude.{◌≡◌, ◌≤◌, ◌<◌, ◌^◌, ℕ, ◌+◌, ◌&&◌, ◌||◌, not, Bool, false, if◌then◌else◌, List, [], ◌∷◌, length, map, zip, Option, Some, is_some, option_map}
use Rattle.std.specs.Borrow.{Bor}
use Rattle.std.specs.Option.{option_or}
use Rattle.std.specs.List.{AllByRecursion}
use Rattle.acl_entry.specs.Check.{has}
use Rattle.acl_entry.specs.Perms.{Perms}
use Rattle.acl_names.specs.Paths.{PathOf}
use Rattle.facl_counts.specs.Sums.{Sum}

-- the counts, where `more` files are added to those of the users to whom a row grants a request
abbrev pub counts_after : Perms → (more : ℕ) → (row counts : List ℕ) → List ℕ
counts_after q more row [] = []
counts_after q more [] (n ∷ counts) = n ∷ counts
counts_after q more (c ∷ row) (n ∷ counts) = (n + (if has c q then more else 0)) ∷ counts_after q more row counts

-- the first files, where one is added for the users to whom a row grants a request, and who have none
abbrev pub firsts_after : {A : Type 0} → Perms → A → (row : List ℕ) → List (Option A) → List (Option A)
firsts_after q p row [] = []
firsts_after q p [] (first ∷ firsts) = first ∷ firsts
firsts_after q p (c ∷ row) (first ∷ firsts) = (if has c q then option_or first (Some p) else first) ∷ firsts_after q p row firsts

-- whether a row grants a request to one of the users who wait
abbrev pub grants_one : Perms → (row : List ℕ) → List Bool → Bool
grants_one q row [] = false
grants_one q [] (w ∷ waits) = false
grants_one q (c ∷ row) (w ∷ waits) = (w && has c q) || grants_one q row waits

-- no count is above this one
abbrev pub AreWithin : ℕ → List ℕ → Type 0
AreWithin most counts = AllByRecursion (λ n. n ≤ most) counts

-- with `more` added, each is below a bound
abbrev pub AreSmall : (bound more : ℕ) → List ℕ → Type 0
AreSmall bound more counts = AllByRecursion (λ n. n + more < bound) counts

-- the counts whose wide and narrow parts these are
abbrev pub totals : (wide narrow : List ℕ) → List ℕ
totals [] narrow = []
totals (n ∷ wide) [] = []
totals (n ∷ wide) (m ∷ narrow) = (n + m) ∷ totals wide narrow

-- these are parts of the counts of the same users: no count is above `all`, which fits, and no narrow part above `most`
pub record AreKept (all most : ℕ) (wide narrow : List ℕ) : Type 0 where
  pub fits : all < 2 ^ 64
  pub long : length wide ≡ length narrow
  pub within : AreWithin all (totals wide narrow)
  pub few : AreWithin most narrow

-- the sums
abbrev pub sums_kept : List ℕ → List (Option (Bor PathOf)) → List Sum
sums_kept counts firsts = zip counts (map (option_map (λ p. p.now)) firsts)

-- who has no file
abbrev pub waits_of : {A : Type 0} → List (Option A) → List Bool
waits_of firsts = map (λ first. not (is_some first)) firsts
