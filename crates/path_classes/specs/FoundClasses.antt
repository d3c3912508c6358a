-- Classes of paths that are found, and paths that a change of rows may touch.
use Rattle.std.specs.Prelude.{ℕ, ◌||◌, ◌&&◌, Bool, true, false, List, get_or, is_some, Option, None, Some}
use Rattle.std.specs.Option.{option_map_or}
use Rattle.kinds.specs.Given.{used_at}
use Rattle.path_classes.specs.declared.path_class.PathClass.{PathClass}
use Rattle.path_classes.specs.PathClasses.{ClassKinds, kind_at}
use Rattle.path_classes.specs.Renewing.{is_one}

-- whether a class keeps who can search down to it, if there is one
abbrev pub is_searched : Option PathClass → Bool
is_searched None = false
is_searched (Some c) = is_some c.search

-- the same of a class that has one of some labels
abbrev pub is_searched_of : List ℕ → Option PathClass → Bool
is_searched_of labels None = false
is_searched_of labels (Some c) = is_some c.search && is_one c.kind labels

-- ---- rows of some labels become others

-- whether a class is right below one of some classes
abbrev pub is_below_some : List ℕ → PathClass → Bool
is_below_some above c = option_map_or (λ a. is_one a above) c.above false

-- whether the class of a number has one of some labels, or is a class of paths right below one of some classes
abbrev pub is_touched : ClassKinds → List ℕ → List ℕ → ℕ → Bool
is_touched k labels above n = is_one (kind_at k n) labels || option_map_or (is_below_some above) (used_at k n) false

-- ---- rows of all labels become others

-- whether a class has a label that is marked, or is right below a class that is: numbers without a mark are
abbrev pub is_marked : (labels searches : List Bool) → PathClass → Bool
is_marked labels searches c = get_or labels c.kind true || option_map_or (λ a. get_or searches a true) c.above false
