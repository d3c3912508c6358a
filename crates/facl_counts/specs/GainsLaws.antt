-- What the laws of `gains` say: which files are a change for a user, and what a user's lines count together.
use Rattle.std.specs.Prelude.{◌≡◌, ◌<◌, ◌+◌, ℕ, zero, suc, Bool, List, [], map, filter, length}
use Rattle.std.specs.List.{AllByRecursion, flat_map}
use Rattle.acl_entry.specs.Person.{Person}
use Rattle.acl_entry.specs.declared.label.Label.{Label}
use Rattle.acl_names.specs.Paths.{PathOf}
use Rattle.acl_tree.specs.State.{State}
use Rattle.acl_rights.specs.Rows.{Verdict}
use Rattle.facl_answers.specs.ChangesText.{users_of_both, files_of_both}
use Rattle.facl_counts.specs.GainsText.{is_change, is_kept, side_of, sides_of, number_of_sides, files_with}
use Rattle.facl_answers.specs.BothStates.{Sides}

-- each verdict is a byte, as that of acl(5)'s check is
abbrev pub AreBytes : Verdict → Type 0
AreBytes V = (u : Person) (f : Label) → V u f < 256

-- the sum of what the numbers below a bound give
unfoldable pub sum_up_to : (ℕ → ℕ) → ℕ → ℕ
sum_up_to count_of zero = 0
sum_up_to count_of (suc n) = sum_up_to count_of n + count_of n

-- the sum of what all pairs of sides give
abbrev pub sum_by_sides : (Sides → ℕ) → ℕ
sum_by_sides count_of = sum_up_to (λ before. sum_up_to (λ after. count_of (side_of before, side_of after)) number_of_sides) number_of_sides

module _ (V : Verdict) (along : Bool) (loaded now : State) where
  -- whether a file is a change for the user of a name
  abbrev pub is_changed : List ℕ → PathOf → Bool
  is_changed name p = is_change (is_kept V along loaded now p) (sides_of V along loaded now name p)

  -- the files of both states that are a change for the user of a name, in path order
  abbrev pub changed_files : List ℕ → List (PathOf × List ℕ)
  changed_files name = filter (λ file. is_changed name file.0) (files_of_both loaded now)

  -- no file of both states is a change for a user of both
  abbrev pub IsWithoutChange : Type 0
  IsWithoutChange = AllByRecursion (λ row. changed_files row.name ≡ []) (users_of_both loaded now)

  -- the sum of COUNT over all lines of the user of a name: that of a pair of sides is the number of its files, and there is
  -- no line where there are none
  abbrev pub counted : List ℕ → ℕ
  counted name = sum_by_sides (λ sides. length (files_with V along loaded now name sides))

  -- the users of both states, by name, with each file that is a change for them
  abbrev pub changed_pairs : List (List ℕ × PathOf)
  changed_pairs = flat_map (λ row. map (λ file. (row.name, file.0)) (changed_files row.name)) (users_of_both loaded now)
