-- How far a run over a script has come.
use Rattle.std.specs.Prelude.{◌≡◌, ◌<◌, ℕ, Bool, true, false, List, [], ◌++◌}
use Rattle.facl_script.specs.Lines.{lines_of}
use Rattle.facl_script.specs.Units.{ScriptUnit, outside, cut, units_of, full_units}
use Rattle.facl_script.specs.Play.{Answer, play}

-- the second answers as the first does below n
abbrev pub AgreesBelow : ℕ → (ℕ → Bool) → (ℕ → Bool) → Type 0
AgreesBelow n m m' = (k : ℕ) → k < n → m' k ≡ m k

-- What was returned are these units, whatever comes after it, and this was their answer. The next line has this number.
-- Where the end was reached nothing comes after it.
pub record Progress {S : Type 0} (asks : List ℕ → Bool) (answered : Bool → ScriptUnit → S → Answer S) (start : S) (taken : List ℕ) (number : ℕ) (over : Bool) (answer_so_far : Answer S) : Type 0 where
  pub done : List ScriptUnit
  pub m : ℕ → Bool
  pub splits : (rest : List ℕ) → (over ≡ true → rest ≡ []) → units_of asks (taken ++ rest) ≡ done ++ cut asks outside number (lines_of rest)
  pub full : over ≡ false → full_units done ≡ done
  pub plays : (m' : ℕ → Bool) → AgreesBelow number m m' → play answered m' done start ≡ answer_so_far
