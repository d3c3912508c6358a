-- For inner functions: labels that keep their numbers, and get the rows of numbers of a tree.
use Rattle.std.specs.Prelude.{◌≡◌, ⊤, ℕ, List, [], ◌∷◌, map, get_or, Option, Some, None}
use Rattle.kinds.specs.Numbered.{Numbers}
use Rattle.path_classes.specs.declared.label_row.LabelRow.{LabelRow}

-- the row of a number, if there is a number and it has one
abbrev pub row_by : List (Option LabelRow) → Option ℕ → Option LabelRow
row_by rows None = None
row_by rows (Some number) = get_or rows number None

-- those of some numbers
abbrev pub rows_by : List (Option LabelRow) → List (Option ℕ) → List (Option LabelRow)
rows_by rows numbers = map (row_by rows) numbers

-- two numbers of a tree have the same row
pub record IsSameRow (rows : List (Option LabelRow)) (number other : ℕ) : Type 0 where
  pub row : LabelRow
  pub one : get_or rows number None ≡ Some row
  pub same : get_or rows other None ≡ Some row

-- a number is kept for a label, and its row is that of a number of the tree
pub record IsRowAt (rows : List (Option LabelRow)) (numbers : List (Option ℕ)) (label number : ℕ) : Type 0 where
  pub first : ℕ
  pub kept : get_or numbers label None ≡ Some first
  pub row : IsSameRow rows first number

-- each file has the row that its label gets by its number: labels of files, and numbers of the tree of as many files
abbrev pub HaveRows : List (Option LabelRow) → List (Option ℕ) → Numbers → Numbers → Type 0
HaveRows rows numbers [] [] = ⊤
HaveRows rows numbers [] (f ∷ fs) = ⊥
HaveRows rows numbers (e ∷ es) [] = ⊥
HaveRows rows numbers (e ∷ es) (f ∷ fs) = IsRowAt rows numbers e.1 f.1 × HaveRows rows numbers es fs

-- each label keeps the number that it has
abbrev pub Keeps : List (Option ℕ) → List (Option ℕ) → Type 0
Keeps old new = (label number : ℕ) → get_or old label None ≡ Some number → get_or new label None ≡ Some number
