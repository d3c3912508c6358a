-- Files by classes: all files of a class have the same row of verdicts, alone or along paths.
use Rattle.std.specs.Prelude.{◌≡◌, ℕ, List, [], ◌∷◌, slice_get, Option, Some, None}
use Rattle.std.specs.Coded.{Coded, coded×, coded_ℕ, coded_list}
use Rattle.acl_names.specs.Paths.{PathOf}
use Rattle.path_classes.specs.Rows.{Rows, coded_rows}

-- the rows of the classes so far, and the rows of the files that are still to come
abbrev pub Classed : Type 0
Classed = List (List ℕ) × Rows

abbrev pub coded_classed : Coded Classed
coded_classed = coded× (coded_list (coded_list coded_ℕ)) coded_rows

-- the classes that there were keep their rows
abbrev pub KeepRows : (old new : List (List ℕ)) → Type 0
KeepRows old new = (class : ℕ) (row : List ℕ) → slice_get old class ≡ Some row → slice_get new class ≡ Some row

-- the first file that was to come, with a class that has its row
pub record IsFileTaken (old : Classed) (file : PathOf × ℕ) (new : Classed) : Type 0 where
  pub row : List ℕ
  pub first : old.1 ≡ (file.0, row) ∷ new.1
  pub has : slice_get new.0 file.1 ≡ Some row
  pub keep : KeepRows old.0 new.0

-- the next file with its class, if one was to come
abbrev pub TakesFile : Classed → Option (PathOf × ℕ) → Classed → Type 0
TakesFile old None new = (old.1 ≡ []) × (new ≡ old)
TakesFile old (Some file) new = IsFileTaken old file new
