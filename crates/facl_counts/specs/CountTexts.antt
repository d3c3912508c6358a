-- For inner functions of `below` and `gains`: the parts that lines of counts share.
use Rattle.std.specs.Prelude.{ℕ, List, [], ◌∷◌, ◌++◌, decimal}

abbrev pub spaced : List ℕ → List ℕ
spaced text = text ++ 32 ∷ []

-- a number and a user's name, with a space after each
abbrev pub count_text : ℕ → List ℕ → List ℕ
count_text n name = spaced (decimal n) ++ spaced name
