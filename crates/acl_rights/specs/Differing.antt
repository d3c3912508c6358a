-- How many verdicts of a table are not as they were in a table before.
use Rattle.std.specs.Prelude.{ℕ, suc, ◌+◌, ◌==◌, nat_lt, Bool, false, List, [], ◌∷◌, Option, None, Some, slice_get, option_and_then, if◌then◌else◌}
use Rattle.std.specs.List.{sum_by}
use Rattle.std.specs.FinMap.{find}
use Rattle.acl_names.specs.Paths.{path_cmp}
use Rattle.path_classes.specs.Rows.{Rows}

-- a user's place before, where the user at a place may have left
abbrev pub place_before : Option ℕ → ℕ → ℕ
place_before None user = user
place_before (Some left) user = if nat_lt user left then user else suc user

-- whether a verdict is the one before, if there was one
abbrev pub is_as_before : Option ℕ → ℕ → Bool
is_as_before None c = false
is_as_before (Some b) c = b == c

-- whether a user's verdict is as in the row before, if there was one
abbrev pub is_as_in : Option ℕ → Option (List ℕ) → ℕ → ℕ → Bool
is_as_in left before user c = is_as_before (option_and_then (λ cells. slice_get cells (place_before left user)) before) c

-- how many verdicts of a row fail a test, the first user being n
abbrev pub fails_from : (ℕ → ℕ → Bool) → ℕ → List ℕ → ℕ
fails_from test n [] = 0
fails_from test n (c ∷ cells) = (if test n c then 0 else 1) + fails_from test (suc n) cells

-- how many pairs of a user and a path have a verdict that is new or another than before
abbrev pub differing : Option ℕ → Rows → Rows → ℕ
differing left old new = sum_by (λ r. fails_from (is_as_in left (find path_cmp r.0 old)) 0 r.1) new
