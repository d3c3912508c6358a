-- What `gains` prints: for each user and each change of what the user is granted, on how many files, and on which first.
use Rattle.std.specs.Prelude.{ℕ, zero, suc, ◌+◌, ◌==◌, ◌&&◌, ◌||◌, not, Bool, true, false, List, [], ◌∷◌, ◌++◌, filter, length, decimal, codes, Option, Some, None, is_some, option_and_then, unwrap_or}
use Rattle.std.specs.List.{flat_map, list_any}
use Rattle.std.specs.FinMap.{find}
use Rattle.acl_entry.specs.Check.{has}
use Rattle.acl_names.specs.Names.{escaped}
use Rattle.acl_names.specs.Paths.{path_cmp, PathOf}
use Rattle.acl_tree.specs.State.{State}
use Rattle.acl_rights.specs.Rows.{Verdict}
use Rattle.acl_rights.specs.Verdicts.{can_requests}
use Rattle.facl_answers.specs.Answers.{line, hex_digits}
use Rattle.facl_answers.specs.ChangesText.{users_of_both, files_of_both, place_of}
use Rattle.facl_answers.specs.Requests.{requests_granted}
use Rattle.facl_answers.specs.BothStates.{Sides}

-- ---- what a user may do with a file before and after

-- some request other than none is granted after, and was not before
abbrev pub is_gained : (before after : ℕ) → Bool
is_gained before after = list_any (λ request. not (has before request)) (requests_granted after)

-- Whether it is a change. On a file that is there before and after, a user gains or loses a request other than none; who
-- is not there is granted nothing. A file that is new or gone is a change for each user who is there with it.
abbrev pub is_change : (is_kept : Bool) → Sides → Bool
is_change true sides = is_gained (unwrap_or sides.0 0) (unwrap_or sides.1 0) || is_gained (unwrap_or sides.1 0) (unwrap_or sides.0 0)
is_change false sides = is_some sides.0 || is_some sides.1

abbrev pub is_same_side : Option ℕ → Option ℕ → Bool
is_same_side None None = true
is_same_side None (Some c) = false
is_same_side (Some b) None = false
is_same_side (Some b) (Some c) = b == c

abbrev pub is_same : Sides → Sides → Bool
is_same some other = is_same_side some.0 other.0 && is_same_side some.1 other.1

-- ---- a line

-- the requests that are granted, as two hex digits; where the file or the user is not there, --
abbrev pub side_text : Option ℕ → List ℕ
side_text None = codes "--"
side_text (Some granted) = hex_digits granted

-- BEFORE AFTER COUNT USER PATH: how many files, by their paths as they are printed, and the first of them; nothing where
-- there are none
abbrev pub gain_line : List ℕ → Sides → List (PathOf × List ℕ) → List ℕ
gain_line user sides [] = []
gain_line user sides (file ∷ files) =
    side_text sides.0 ++ (32 ∷ (side_text sides.1 ++ (32 ∷ (decimal (1 + length files) ++ (32 ∷ (user ++ (32 ∷ line file.1)))))))

-- ---- the changes in order

-- a side by its number: not there, and then what is granted
abbrev pub side_of : ℕ → Option ℕ
side_of zero = None
side_of (suc granted) = Some granted

abbrev pub number_of_sides : ℕ
number_of_sides = 257

-- the lines of the numbers below a bound
unfoldable pub lines_up_to : (ℕ → List ℕ) → ℕ → List ℕ
lines_up_to lines_of zero = []
lines_up_to lines_of (suc n) = lines_up_to lines_of n ++ lines_of n

-- the lines of all pairs of sides: by the side before, and then by the side after
abbrev pub lines_by_sides : (Sides → List ℕ) → List ℕ
lines_by_sides lines_of = lines_up_to (λ before. lines_up_to (λ after. lines_of (side_of before, side_of after)) number_of_sides) number_of_sides

-- ---- of two states: the loaded one, and the present one

module _ (V : Verdict) (along : Bool) (loaded now : State) where
  -- what the user of a name may do with the file of a path, if both are there
  abbrev pub granted_in : State → List ℕ → PathOf → Option ℕ
  granted_in s name p = option_and_then (λ user. can_requests V along s user p) (place_of s name)

  abbrev pub sides_of : List ℕ → PathOf → Sides
  sides_of name p = (granted_in loaded name p, granted_in now name p)

  -- whether a file is there before and after
  abbrev pub is_kept : PathOf → Bool
  is_kept p = is_some (find path_cmp p loaded.tree.files) && is_some (find path_cmp p now.tree.files)

  -- whether the user of a name has this change on a file
  abbrev pub has_change : List ℕ → Sides → PathOf → Bool
  has_change name sides p = is_change (is_kept p) (sides_of name p) && is_same sides (sides_of name p)

  -- the files of both states on which the user of a name has this change, in path order
  abbrev pub files_with : List ℕ → Sides → List (PathOf × List ℕ)
  files_with name sides = filter (λ file. has_change name sides file.0) (files_of_both loaded now)

  -- the lines of the user of a name
  abbrev pub gain_lines : List ℕ → List ℕ
  gain_lines name = lines_by_sides (λ sides. gain_line (escaped name) sides (files_with name sides))

  -- `gains`: the lines of each user of both states
  abbrev pub gains_text : List ℕ
  gains_text = flat_map (λ row. gain_lines row.name) (users_of_both loaded now)
