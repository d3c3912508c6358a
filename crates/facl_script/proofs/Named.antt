-- The place of a name among the rows of a syntax.
use Rattle.std.proofs.Common.{◌≡◌, ◌+◌, ◌≤◌, ℕ, Bool, true, false, not, cond, List, [], ◌∷◌, None, Some, length, map, nat_lt, refl, ap, ◌∙◌, arith}
use Rattle.std.proofs.lemmas.List.Sums.{prefix_len-le-length}
use Rattle.std.specs.Prelude.{position, unwrap_or}
use Rattle.std.specs.List.{position_or_len}
use Rattle.std.specs.Str.{bytes_eq}
use Rattle.facl_script.specs.Naming.{place}

-- a search that gives the number of all where it finds none
found_or_all : (n all : ℕ) → n ≤ all → unwrap_or (cond (nat_lt n all) (Some n) None) all ≡ n
found_or_all n all h = by (nat_lt n all) refl
  where
    by : (b : Bool) → nat_lt n all ≡ b → unwrap_or (cond b (Some n) None) all ≡ n
    by true e = refl
    by false e = grind (arith, e, h)

place_mapped : {X Y : Type 0} (view : X → Y) (id : Y → List ℕ) (name : List ℕ) (xs : List X)
    → position_or_len (λ x. bytes_eq (id (view x)) name) xs ≡ place name (map id (map view xs))
place_mapped view id name [] = refl
place_mapped view id name (x ∷ xs) = ap (λ n. cond (not (bytes_eq (id (view x)) name)) (1 + n) 0) (place_mapped view id name xs)

-- the place of a name among rows, of which each has a name
pub place_found : {X Y : Type 0} (view : X → Y) (id : Y → List ℕ) (name : List ℕ) (xs : List X)
    → unwrap_or (position (λ x. bytes_eq (id (view x)) name) xs) (length xs) ≡ place name (map id (map view xs))
place_found view id name xs =
    found_or_all (position_or_len (λ x. bytes_eq (id (view x)) name) xs) (length xs) (prefix_len-le-length (λ x. not (bytes_eq (id (view x)) name)) xs)
    ∙ place_mapped view id name xs
