-- Rows by numbers: those of labels, or along paths what path classes leave of them.
use Rattle.std.specs.Prelude.{◌≡◌, ℕ, suc, Bool, List, [], ◌∷◌, map, get_or, slice_get, Option, None, Some, if◌then◌else◌}
use Rattle.std.specs.Borrow.{Bor}
use Rattle.std.specs.List.{AllByRecursion}
use Rattle.std.specs.Option.{option_map_or}
use Rattle.acl_names.specs.Paths.{PathOf}
use Rattle.path_map.specs.Entries.{seen}
use Rattle.kinds.specs.Kinds.{KindsOf, node_at, count_at, IsNode}
use Rattle.kinds.specs.Numbered.{Kept, Numbers, entries_in, paths_with}
use Rattle.path_classes.specs.declared.label_row.LabelRow.{LabelRow}
use Rattle.path_classes.specs.declared.path_class.PathClass.{PathClass}
use Rattle.path_classes.specs.Rows.{Rows}
use Rattle.path_classes.specs.KindRows.{rows_at}
use Rattle.path_classes.specs.ReachedRows.{rows_along}
use Rattle.path_classes.specs.Searching.{gets_through}
use Rattle.path_classes.specs.PathClasses.{ClassKinds, search_above}
use Rattle.path_classes.specs.ClassBuilding.{IsRightAt}

-- what is left of a row for those who get through from above, its first user being n
abbrev pub left_from : Option (List Bool) → ℕ → List ℕ → List ℕ
left_from above n [] = []
left_from above n (c ∷ cells) = (if gets_through above n then c else 0) ∷ left_from above (suc n) cells

-- the same of the users who have a place in a list of those who get through; others keep what they have
abbrev pub left_to : List Bool → List ℕ → List ℕ
left_to through [] = []
left_to [] (c ∷ cells) = c ∷ cells
left_to (b ∷ through) (c ∷ cells) = (if b then c else 0) ∷ left_to through cells

-- the row of a label, by its number
abbrev pub label_row : KindsOf LabelRow → ℕ → List ℕ
label_row rows n = option_map_or (λ x. x.row) (node_at rows n) []

-- what a path class leaves of the row of its label
abbrev pub row_below : KindsOf LabelRow → ClassKinds → PathClass → List ℕ
row_below rows k c = left_from (search_above k c.above) 0 (label_row rows c.kind)

-- the same by its number
abbrev pub class_row : KindsOf LabelRow → ClassKinds → ℕ → List ℕ
class_row rows k n = option_map_or (row_below rows k) (node_at k n) []

-- the row of a number: that of a label, or, where classes are given, of a path class
abbrev pub row_of : KindsOf LabelRow → Option ClassKinds → ℕ → List ℕ
row_of rows None n = label_row rows n
row_of rows (Some k) n = class_row rows k n

-- how many files have a number
abbrev pub files_of : KindsOf LabelRow → Option ClassKinds → ℕ → ℕ
files_of rows None n = count_at rows n
files_of rows (Some k) n = count_at k n

-- a number has a row
abbrev pub HasRow : KindsOf LabelRow → Option ClassKinds → ℕ → Type 0
HasRow rows None n = IsNode rows n
HasRow rows (Some k) n = IsRightAt rows k n

abbrev pub HaveRows : KindsOf LabelRow → Option ClassKinds → Numbers → Type 0
HaveRows rows classes numbers = AllByRecursion (λ e. HasRow rows classes e.1) numbers

-- paths with the rows of their numbers
abbrev pub rows_by : (ℕ → List ℕ) → Numbers → Rows
rows_by row numbers = map (λ e. (e.0, row e.1)) numbers

-- numbers by which the rows of files are found, alone or along paths
pub record AreNumbers (along : Bool) (rows : Kept LabelRow) (classes : Option ClassKinds) (numbers : Numbers) : Type 0 where
  pub have : HaveRows rows.0 classes numbers
  pub are : rows_by (row_of rows.0 classes) numbers ≡ rows_along along (rows_at (entries_in rows))
  pub counted : (n : ℕ) → files_of rows.0 classes n ≡ paths_with n numbers

-- ---- files that are still to come

-- the number that was read, and those after it; nothing where none was read
abbrev pub numbers_left : Option (Bor PathOf × ℕ) → Numbers → Numbers
numbers_left None rest = []
numbers_left (Some e) rest = seen e ∷ rest

-- files with their numbers, and where the rows of these are found
pub record FilesLeft : Type 0 where
  pub rows : KindsOf LabelRow
  pub classes : Option ClassKinds
  pub left : Numbers

abbrev pub row_at : FilesLeft → ℕ → List ℕ
row_at f n = row_of f.rows f.classes n

abbrev pub files_with : FilesLeft → ℕ → ℕ
files_with f n = files_of f.rows f.classes n

abbrev pub rows_left : FilesLeft → Rows
rows_left f = rows_by (row_at f) f.left

-- ---- numbers that were met

-- the rows of numbers
abbrev pub rows_met : FilesLeft → List ℕ → List (List ℕ)
rows_met f numbers = map (row_at f) numbers

-- each number that was met has its place, where the row of a number is its row
pub record AreMet (f : FilesLeft) (places : List (Option ℕ)) (numbers : List ℕ) : Type 0 where
  pub have : AllByRecursion (HasRow f.rows f.classes) numbers
  pub here : (n at : ℕ) → get_or places n None ≡ Some at → slice_get (rows_met f numbers) at ≡ Some (row_at f n)
