-- Rows of verdicts by paths, and what is read from them.
use Rattle.std.specs.Prelude.{ℕ, suc, List, [], ◌∷◌, map, filter, slice_get, Bool, false, if◌then◌else◌}
use Rattle.std.specs.Option.{option_map_or}
use Rattle.std.specs.Coded.{Coded, coded×, coded_ℕ, coded_list}
use Rattle.acl_entry.specs.Check.{has}
use Rattle.acl_entry.specs.Perms.{Perms}
use Rattle.acl_names.specs.Paths.{PathOf}

-- for each path the verdicts of all users
abbrev pub Rows : Type 0
Rows = List (PathOf × List ℕ)

abbrev pub coded_rows : Coded Rows
coded_rows = coded_list (coded× (coded_list (coded_list coded_ℕ)) (coded_list coded_ℕ))

-- the places of those that pass a test, the first place being n
abbrev pub places_from : {A : Type 0} → (A → Bool) → ℕ → List A → List ℕ
places_from test n [] = []
places_from test n (x ∷ xs) = if test x then n ∷ places_from test (suc n) xs else places_from test (suc n) xs

-- the users to whom a row grants a request
abbrev pub who_in : Perms → List ℕ → List ℕ
who_in q cells = places_from (λ c. has c q) 0 cells

-- whether a row grants a user a request
abbrev pub grants : Perms → ℕ → List ℕ → Bool
grants q user cells = option_map_or (λ c. has c q) (slice_get cells user) false

abbrev pub grants_to : Perms → ℕ → PathOf × List ℕ → Bool
grants_to q user row = grants q user row.1

-- the paths whose rows grant a user a request
abbrev pub may_in : Perms → ℕ → Rows → List PathOf
may_in q user rows = map (λ row. row.0) (filter (grants_to q user) rows)
