-- For inner functions: counts of files by keys, as they are kept.
use Rattle.std.specs.Prelude.{◌≡◌, ℕ, List, slice_get, Some}
use Rattle.facl_answers.specs.BothStates.{Sides}
use Rattle.path_classes.specs.Tallies.{Tallied}
use Rattle.facl_counts.specs.declared.tallies.Tally.{Tally}

-- a count as it is kept
abbrev pub tallied : Tally → Tallied Sides
tallied t = record { key = t.key; count = t.count; first = t.first.now }

-- the count at a place is that of a key
pub record HasKey (ts : List (Tallied Sides)) (at : ℕ) (key : Sides) : Type 0 where
  pub tally : Tallied Sides
  pub here : slice_get ts at ≡ Some tally
  pub same : tally.key ≡ key
