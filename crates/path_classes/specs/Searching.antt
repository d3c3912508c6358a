-- Who can search all directories down to a place.
use Rattle.std.specs.Prelude.{ℕ, zero, suc, ◌&&◌, Bool, true, false, List, [], ◌∷◌, get_or, Option, None, Some}
use Rattle.acl_entry.specs.Check.{has}
use Rattle.path_classes.specs.ReachedRows.{execute}

-- whether a user gets through from above: all do where nothing is above
abbrev pub gets_through : Option (List Bool) → ℕ → Bool
gets_through None user = true
gets_through (Some above) user = get_or above user false

-- who gets through from above and can search by a row, whose first user is n
abbrev pub searchers_from : Option (List Bool) → ℕ → List ℕ → List Bool
searchers_from above n [] = []
searchers_from above n (c ∷ cells) = (gets_through above n && has c execute) ∷ searchers_from above (suc n) cells

abbrev pub searchers : Option (List Bool) → List ℕ → List Bool
searchers above cells = searchers_from above 0 cells

-- which of some users get through from above, the first being n
abbrev pub through_from : Option (List Bool) → ℕ → ℕ → List Bool
through_from above n zero = []
through_from above n (suc count) = gets_through above n ∷ through_from above (suc n) count

-- those of some users to whom a row grants search; users without a verdict stay
abbrev pub searches_kept : List ℕ → List Bool → List Bool
searches_kept cells [] = []
searches_kept [] (b ∷ users) = b ∷ users
searches_kept (c ∷ cells) (b ∷ users) = (b && has c execute) ∷ searches_kept cells users
