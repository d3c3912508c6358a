-- What reading a unit finds.
use Rattle.std.specs.Prelude.{◌≡◌, ◌<◌, ◌≤◌, ◌+◌, ℕ, Bool, true, false, not, List, ◌∷◌, ◌++◌, [], length, Option, None, Some, Result, Ok, Err}
use Rattle.std.specs.Io.KnownBytes.{Keeps, Consumes, IsAtEnd}
use Rattle.facl_script.specs.Lines.{lines_of}
use Rattle.facl_script.specs.Units.{ScriptUnit, takes_text, outside, cut}
use Rattle.facl_script.specs.ReadText.{IsTextFound}
use Rattle.facl_script.specs.Words.{has_no_words}
use Rattle.facl_script.specs.declared.fault.ScriptFault.{ScriptFault}
use Rattle.facl_script.specs.declared.held.LineFound.{LineFound}
use Rattle.facl_script.specs.declared.held.LineFound.TheVariants.{TooLong, Silent, WithWords}
use Rattle.facl_script.specs.declared.unit.UnitFound.{UnitFound}
use Rattle.facl_script.specs.declared.text.TextFound.TheVariants.{Lost}

-- the line of a unit: these bytes are held, unless it is over the limit, and were looked at for words
abbrev pub IsLineFound : LineFound → List ℕ → Option (List ℕ) → Type 0
IsLineFound TooLong held line = line ≡ None
IsLineFound Silent held line = (line ≡ Some held) × (has_no_words held ≡ true)
IsLineFound WithWords held line = (line ≡ Some held) × (has_no_words held ≡ false)

-- The code has this unit, with its line and its text. Where it lost the text, the line is one that takes a text.
pub record IsUnitFound (asks : List ℕ → Bool) (found : UnitFound) (line text : List ℕ) (unit : ScriptUnit) : Type 0 where
  pub number : unit.number ≡ found.number
  pub line_is : IsLineFound found.line line unit.line
  pub text_is : IsTextFound found.text text unit.text
  pub full : unit.is_full ≡ found.is_full
  pub lost : found.text ≡ Lost → (l : List ℕ) × (unit.line ≡ Some l) × (takes_text asks l ≡ true)

-- This piece is the next unit, for every rest of the script; a unit that is not full is the last.
pub record IsNextUnit (asks : List ℕ → Bool) (before after : Option (List ℕ)) (taken taken' number number' : ℕ) (piece : List ℕ) (unit : ScriptUnit) : Type 0 where
  pub consumes : Consumes before after piece
  pub splits : (rest : List ℕ) → (unit.is_full ≡ false → rest ≡ []) → cut asks outside number (lines_of (piece ++ rest)) ≡ unit ∷ cut asks outside number' (lines_of rest)
  pub last : unit.is_full ≡ false → IsAtEnd after
  pub numbered : unit.number ≡ number
  pub grows : number < number'
  pub lines : number' ≤ number + length piece
  pub count : taken' ≡ taken + length piece

abbrev pub FindsUnit : (List ℕ → Bool) → Option UnitFound → (line text : List ℕ) (before after : Option (List ℕ)) (taken taken' number number' : ℕ) → Type 0
FindsUnit asks None line text before after taken taken' number number' = Keeps before after × IsAtEnd after × (taken' ≡ taken) × (number' ≡ number)
FindsUnit asks (Some found) line text before after taken taken' number number' =
    (piece : List ℕ) × (unit : ScriptUnit) × IsNextUnit asks before after taken taken' number number' piece unit × IsUnitFound asks found line text unit

-- nothing is read after this
abbrev pub is_last : Result (Option UnitFound) ScriptFault → Bool
is_last (Ok None) = true
is_last (Ok (Some found)) = not found.is_full
is_last (Err fault) = true
