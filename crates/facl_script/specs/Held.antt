-- What the code has of a unit: its line and its text as it holds them.
use Rattle.std.specs.Prelude.{◌≡◌, ℕ, Bool, true, false, List, Option, None, Some}
use Rattle.facl_script.specs.Units.{ScriptUnit, UnitText, takes_text, none, whole, too_long, unended}
use Rattle.facl_script.specs.Words.{has_no_words}
use Rattle.facl_script.specs.declared.held.HeldLine.{HeldLine}
use Rattle.facl_script.specs.declared.held.HeldLine.TheVariants as lines
use Rattle.facl_script.specs.declared.held.HeldText.{HeldText}
use Rattle.facl_script.specs.declared.held.HeldText.TheVariants as texts
use Rattle.facl_script.specs.declared.held.HeldUnit.{HeldUnit}

-- the line of a unit, and that it was looked at for words
abbrev pub IsLineHeld : HeldLine → Option (List ℕ) → Type 0
IsLineHeld lines.TooLong line = line ≡ None
IsLineHeld (lines.Silent held) line = (line ≡ Some held.now) × (has_no_words held.now ≡ true)
IsLineHeld (lines.WithWords held) line = (line ≡ Some held.now) × (has_no_words held.now ≡ false)

-- the text of a unit, unless the code has lost it
abbrev pub IsTextHeld : HeldText → UnitText → Type 0
IsTextHeld texts.Absent text = text ≡ none
IsTextHeld (texts.Whole held) text = text ≡ whole held.now
IsTextHeld texts.TooLong text = text ≡ too_long
IsTextHeld texts.Unended text = text ≡ unended
IsTextHeld texts.Lost text = Unit {0}

-- The code holds this unit. Where it lost the text, the line is one that takes a text.
pub record IsUnitHeld (asks : List ℕ → Bool) (held : HeldUnit) (unit : ScriptUnit) : Type 0 where
  pub number : unit.number ≡ held.number
  pub line_is : IsLineHeld held.line unit.line
  pub text_is : IsTextHeld held.text unit.text
  pub full : unit.is_full ≡ held.is_full
  pub lost : held.text ≡ texts.Lost → (l : List ℕ) × (unit.line ≡ Some l) × (takes_text asks l ≡ true)
