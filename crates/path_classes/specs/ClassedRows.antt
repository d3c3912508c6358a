-- Rows that become others, answers along paths that stay, and how many files have others.
use Rattle.std.specs.Prelude.{◌≡◌, ◌≤◌, ℕ, Bool, true, false, List, map, count_by, Option, option_map}
use Rattle.std.specs.List.{AllByRecursion}
use Rattle.std.specs.Ordering.{is_eq}
use Rattle.std.specs.FinMap.{put}
use Rattle.acl_names.specs.Paths.{path_cmp, PathOf}
use Rattle.path_map.specs.Merged.{merged, without_all}
use Rattle.kinds.specs.Kinds.{KindsOf, node_at, IsNode}
use Rattle.kinds.specs.Numbered.{Kept, Numbers, entries_in}
use Rattle.kinds.specs.Tagged.{is_one}
use Rattle.path_classes.specs.declared.label_row.LabelRow.{LabelRow}
use Rattle.path_classes.specs.ClassesWithin.{is_inside}
use Rattle.path_classes.specs.KindRows.{rows_at}
use Rattle.path_classes.specs.ReachedRows.{reached_at}

-- each user's answer at a path is the same by two tables
abbrev pub SameAnswers : (old new : Kept LabelRow) → PathOf → Type 0
SameAnswers old new p = (user : ℕ) → reached_at (rows_at (entries_in old)) user p ≡ reached_at (rows_at (entries_in new)) user p

-- a count is at least that of those of some paths at which an answer is another one
abbrev pub AreCountedOf : (old new : Kept LabelRow) → Numbers → ℕ → Type 0
AreCountedOf old new es n = (differs : PathOf → Bool) → ((p : PathOf) → SameAnswers old new p → differs p ≡ false) → count_by (λ e. differs e.0) es ≤ n

-- a count is at least that of the paths at which an answer is another one
abbrev pub AreCounted : (old new : Kept LabelRow) → ℕ → Type 0
AreCounted old new n = AreCountedOf old new new.1 n

-- the paths of entries
abbrev pub paths_of : {V : Type 0} → List (PathOf × V) → List PathOf
paths_of es = map (λ e. e.0) es

-- rows where some paths have other numbers and others are gone; each path that is neither keeps its label's number and row
pub record PutsRows {V W : Type 0} (old : Kept LabelRow) (changed : List (PathOf × V)) (gone : List (PathOf × W)) (new : Kept LabelRow) : Type 0 where
  pub puts : Numbers
  pub paths : paths_of puts ≡ paths_of changed
  pub numbers : new.1 ≡ merged puts gone old.1
  pub kept : AllByRecursion (λ e. node_at new.0 e.1 ≡ node_at old.0 e.1) (without_all changed (without_all gone old.1))

-- rows where one path has another number; all other paths keep their labels' rows
pub record PutsRow (old : Kept LabelRow) (p : PathOf) (new : Kept LabelRow) : Type 0 where
  pub number : ℕ
  pub numbers : new.1 ≡ put path_cmp p number old.1
  pub kept : AllByRecursion (λ e. is_eq (path_cmp e.0 p) ≡ false → node_at new.0 e.1 ≡ node_at old.0 e.1) old.1

-- the verdicts on a label, by its number, if it has a row
abbrev pub verdicts_at : KindsOf LabelRow → ℕ → Option (List ℕ)
verdicts_at rows n = option_map (λ x. x.row) (node_at rows n)

-- rows of the same paths and labels: the verdicts on some labels are others
pub record ChangesRows (old : Kept LabelRow) (labels : List ℕ) (new : Kept LabelRow) : Type 0 where
  pub numbers : new.1 ≡ old.1
  pub there : (n : ℕ) → IsNode old.0 n → IsNode new.0 n
  pub same : (n : ℕ) → is_one n labels ≡ false → verdicts_at new.0 n ≡ verdicts_at old.0 n

-- each path that has one of some numbers is at or below one of some paths
abbrev pub AllInside : List ℕ → List PathOf → Numbers → Type 0
AllInside numbers tops es = AllByRecursion (λ e. is_one e.1 numbers ≡ true → is_inside tops e.0 ≡ true) es
