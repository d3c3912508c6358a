-- For inner functions: the files of two states with their rows and classes, and what is still to come of both.
use Rattle.std.specs.Prelude.{◌≡◌, ℕ, ◌+◌, ◌<◌, Bool, true, if◌then◌else◌, List, [], ◌∷◌, map, length, slice_get, Option, Some, None, option_map, option_and_then}
use Rattle.std.specs.FinMap.{find}
use Rattle.std.specs.declared.cmp.Ordering.{Ordering}
use Rattle.std.specs.declared.cmp.Ordering.TheVariants.{Less, Greater}
use Rattle.acl_names.specs.Below.{encloses}
use Rattle.acl_names.specs.Paths.{path_cmp, PathOf}
use Rattle.acl_tree.specs.State.{State}
use Rattle.path_map.specs.Entries.{first, IsInOrder}
use Rattle.path_map.specs.Merged.{put_all}
use Rattle.path_classes.specs.Classes.{Classed, KeepRows}
use Rattle.path_classes.specs.Rows.{Rows}
use Rattle.acl_rights.specs.Rows.{Verdict}
use Rattle.acl_rights.specs.Verdicts.{rows_granted}
use Rattle.facl_answers.specs.declared.both_classes.BothClasses.{BothClasses}

-- what is there before and after: nothing on the side where it is not there
abbrev pub Sides : Type 0
Sides = Option ℕ × Option ℕ

-- ---- the files of both states, with their rows

-- the rows of a file before and after
abbrev pub RowsOfFile : Type 0
RowsOfFile = Option (List ℕ) × Option (List ℕ)

-- the files of both in path order
abbrev pub rows_of_both : (before after : Rows) → List (PathOf × RowsOfFile)
rows_of_both before after = map (λ file. (file.0, (find path_cmp file.0 before, find path_cmp file.0 after))) (put_all after before)

-- the first files, as long as they are at a path or below it
abbrev pub front : {A : Type 0} → PathOf → List (PathOf × A) → List (PathOf × A)
front top [] = []
front top (file ∷ files) = if encloses top file.0 then file ∷ front top files else []

-- how a path is to another one; it is before it where there is no other one
abbrev pub path_order : (before after : Option PathOf) → Option Ordering
path_order None None = None
path_order None (Some new) = Some Greater
path_order (Some old) None = Some Less
path_order (Some old) (Some new) = Some (path_cmp old new)

abbrev pub next_path_of : Classed → Option PathOf
next_path_of classed = option_map (λ row. row.0) (first classed.1)

-- ---- classes

abbrev pub row_of_class : List (List ℕ) → Option ℕ → Option (List ℕ)
row_of_class rows class = option_and_then (slice_get rows) class

-- a class has a row; or there is neither
abbrev pub IsClassOf : (rows : List (List ℕ)) → Option ℕ → Option (List ℕ) → Type 0
IsClassOf rows None None = Unit {0}
IsClassOf rows None (Some row) = ⊥
IsClassOf rows (Some class) None = ⊥
IsClassOf rows (Some class) (Some row) = slice_get rows class ≡ Some row

-- the same before and after
abbrev pub AreClassesOf : (before after : List (List ℕ)) → Sides → RowsOfFile → Type 0
AreClassesOf before after key rows = IsClassOf before key.0 rows.0 × IsClassOf after key.1 rows.1

-- what is still to come of both, with the classes so far
abbrev pub BothClassed : Type 0
BothClassed = Classed × Classed

abbrev pub both_of : BothClasses → BothClassed
both_of both = (both.before, both.after)

-- the rows of a key's classes
abbrev pub rows_of_key : BothClassed → Sides → RowsOfFile
rows_of_key both key = (row_of_class both.0.0 key.0, row_of_class both.1.0 key.1)

-- the first file of both that was to come, with classes that have its rows
pub record IsTaken (old : BothClassed) (file : PathOf × Sides) (new : BothClassed) : Type 0 where
  pub rows : RowsOfFile
  pub is : rows_of_both old.0.1 old.1.1 ≡ (file.0, rows) ∷ rows_of_both new.0.1 new.1.1
  pub has : AreClassesOf new.0.0 new.1.0 file.1 rows
  pub keep_before : KeepRows old.0.0 new.0.0
  pub keep_after : KeepRows old.1.0 new.1.0
  pub before_order : IsInOrder new.0.1
  pub after_order : IsInOrder new.1.1
  pub fewer : length new.0.1 + length new.1.1 < length old.0.1 + length old.1.1

-- the next file of both, if one was to come
abbrev pub TakesNext : BothClassed → Option (PathOf × Sides) → BothClassed → Type 0
TakesNext old None new = (rows_of_both old.0.1 old.1.1 ≡ []) × (new ≡ old)
TakesNext old (Some file) new = IsTaken old file new

-- the next file of both, if one at or below a path was to come; else what was to come begins with none of these
abbrev pub TakesNextWithin : PathOf → BothClassed → Option (PathOf × Sides) → BothClassed → Type 0
TakesNextWithin top old None new = (front top (rows_of_both old.0.1 old.1.1) ≡ []) × (KeepRows old.0.0 new.0.0 × KeepRows old.1.0 new.1.0)
TakesNextWithin top old (Some file) new = (encloses top file.0 ≡ true) × IsTaken old file new

-- ---- of two states

module _ (V : Verdict) (along : Bool) (loaded now : State) where
  -- the rows of a path
  abbrev pub rows_at : PathOf → RowsOfFile
  rows_at p = (find path_cmp p (rows_granted V along loaded), find path_cmp p (rows_granted V along now))

  -- all files with their rows
  abbrev pub rows_in_both : List (PathOf × RowsOfFile)
  rows_in_both = rows_of_both (rows_granted V along loaded) (rows_granted V along now)
