-- For inner functions: files counted class by class, where each number is counted as soon as one of its files is met.
use Rattle.std.specs.Prelude.{◌≡◌, ◌<◌, ℕ, ◌==◌, Bool, true, false, ◌||◌, List, [], ◌++◌, map, get_or, count_by, Option, None, Some, option_map, is_some, if◌then◌else◌}
use Rattle.std.specs.List.{AllByRecursion, find}
use Rattle.std.specs.Option.{option_map_or}
use Rattle.acl_names.specs.Paths.{PathOf}
use Rattle.path_map.specs.Entries.{first}
use Rattle.kinds.specs.Numbered.{Numbers, paths_with}
use Rattle.kinds.specs.Tagged.{is_one}
use Rattle.path_classes.specs.NumberedRows.{FilesLeft, files_with}
use Rattle.path_classes.specs.Tallies.{Tallied, count_where, first_where}

-- the files are all that have a number
abbrev pub AreAll : FilesLeft → Type 0
AreAll f = (n : ℕ) → files_with f n ≡ paths_with n f.left

-- whether a number is met: it has a place
abbrev pub is_met : List (Option ℕ) → ℕ → Bool
is_met places n = is_some (get_or places n None)

-- a number has a place, and all others are as they were
abbrev pub IsPlacePut : (old : List (Option ℕ)) → (number place : ℕ) → (new : List (Option ℕ)) → Type 0
IsPlacePut old number place new = (n : ℕ) → get_or new n None ≡ (if n == number then Some place else get_or old n None)

-- each number below an end is met, or no file has it
abbrev pub AreMetBelow : FilesLeft → List (Option ℕ) → ℕ → Type 0
AreMetBelow f places end = (n : ℕ) → n < end → (is_met places n || (files_with f n == 0)) ≡ true

-- whether the place of a number passes a test
abbrev pub passes : (ℕ → Bool) → List (Option ℕ) → ℕ → Bool
passes test places n = option_map_or test (get_or places n None) false

-- the first of the files that are left; none only where there are none, or each number below the end is met
abbrev pub IsNextFile : Option (PathOf × ℕ) → Numbers → (unmet end : ℕ) → Type 0
IsNextFile None left unmet end = unmet < end → left ≡ []
IsNextFile (Some file) left unmet end = first left ≡ Some file

-- after some of all files: the counts are those of all files whose numbers are met
pub record AreMeeting (all left : Numbers) (places : List (Option ℕ)) (found : List (Tallied ℕ)) : Type 0 where
  pub seen : Numbers
  pub whole : seen ++ left ≡ all
  pub met : AllByRecursion (λ e. is_met places e.1 ≡ true) seen
  pub kept : (n at : ℕ) → get_or places n None ≡ Some at → is_one at (map (λ t. t.key) found) ≡ true
  pub counts : (test : ℕ → Bool) → count_where test found ≡ count_by (λ e. passes test places e.1) all
  pub firsts : (test : ℕ → Bool) → first_where test found ≡ option_map (λ e. e.0) (find (λ e. passes test places e.1) seen)
