-- Tags of classes, numbers by which they are found: of three sorts, which leave 0, 1 and 2 when they are divided by 3.
use Rattle.std.specs.Prelude.{ℕ, ◌+◌, ◌*◌, ◌^◌, ◌%◌, Bool, false, true, List, [], ◌∷◌, ◌++◌, Option, None, Some}
use Rattle.path_classes.specs.Hashes.{mixed}

-- that of a label's number
abbrev pub label_tag : ℕ → ℕ
label_tag kind = 3 * kind

-- that of a class above
abbrev pub below_tag : ℕ → ℕ
below_tag above = 3 * above + 1

abbrev pub above_tags : Option ℕ → List ℕ
above_tags None = []
above_tags (Some above) = below_tag above ∷ []

-- a hash of a label's number and a class above
abbrev pub pair_hash : Option ℕ → ℕ → ℕ
pair_hash None kind = mixed 0 kind
pair_hash (Some above) kind = mixed (mixed 0 kind) above

-- that of both, by 30 bits of the hash
abbrev pub pair_tag : Option ℕ → ℕ → ℕ
pair_tag above kind = 3 * (pair_hash above kind % 2 ^ 30) + 2

-- that of the label's number of a class that keeps who can search down to it
abbrev pub search_tags : Bool → ℕ → List ℕ
search_tags false kind = []
search_tags true kind = label_tag kind ∷ []

-- those of a class, by whether it keeps who can search, the class above and its label's number
abbrev pub class_tags : Bool → Option ℕ → ℕ → List ℕ
class_tags searched above kind = pair_tag above kind ∷ (search_tags searched kind ++ above_tags above)
