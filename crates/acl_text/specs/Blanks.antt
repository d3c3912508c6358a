-- White space is space and tab.
use Rattle.std.specs.Prelude.{ℕ, List, [], ◌∷◌, Bool, ◌||◌, ◌==◌, if◌then◌else◌, reverse}

abbrev pub is_blank : ℕ → Bool
is_blank b = (b == 32) || (b == 9)

abbrev pub trim_front : List ℕ → List ℕ
trim_front [] = []
trim_front (b ∷ bs) = if is_blank b then trim_front bs else b ∷ bs

abbrev pub trim_back : List ℕ → List ℕ
trim_back bytes = reverse (trim_front (reverse bytes))

-- the bytes without the white space around them
abbrev pub trimmed : List ℕ → List ℕ
trimmed bytes = trim_back (trim_front bytes)
