-- What reading a text finds.
use Rattle.std.specs.Prelude.{◌≡◌, ◌<◌, ◌≤◌, ◌+◌, ℕ, Bool, false, List, [], ◌∷◌, ◌++◌, length, slice_index, Option, None, Some, option_map, Result, MatchResult}
use Rattle.std.specs.Io.KnownBytes.{Consumes, IsAtEnd}
use Rattle.memchr.specs.Find.{OccursAt}
use Rattle.facl_script.specs.Lines.{lines_of}
use Rattle.facl_script.specs.ByteSource.{pending, unread, taken_count, StopsReading}
use Rattle.facl_script.specs.Units.{opened, UnitText, none, whole, too_long, unended, outside, within, cut, closed, HasNoUnitWithin}
use Rattle.facl_script.specs.declared.fault.ScriptFault.{ScriptFault}
use Rattle.facl_script.specs.declared.source.ByteSource.{ByteSource}
use Rattle.facl_script.specs.declared.text.TextRead.{TextRead}
use Rattle.facl_script.specs.declared.text.TextFound.{TextFound}
use Rattle.facl_script.specs.declared.text.TextFound.TheVariants.{Absent, Whole, TooLong, Unended, Lost}

-- of the lines of a text so far the code has these bytes, or knows that one is over the limit, or has lost them (for inner functions)
abbrev pub HoldsText : TextFound → List ℕ → Option (List ℕ) → Type 0
HoldsText Whole held content = content ≡ Some held
HoldsText TooLong held content = content ≡ None
HoldsText Lost held content = Unit {0}
HoldsText Absent held content = ⊥
HoldsText Unended held content = ⊥

-- `part` is `lines` whole lines of a text, of which none ends it: they come after those so far (for inner functions).
pub record IsTextPart (part : List ℕ) (lines : ℕ) : Type 0 where
  pub splits : (asks : List ℕ → Bool) (number : ℕ) (line : List ℕ) (content : Option (List ℕ)) (n : ℕ) (rest : List ℕ)
      → cut asks (within (record { number = number; line = line; text = content })) n (lines_of (part ++ rest))
      ≡ cut asks (within (record { number = number; line = line; text = option_map (λ t. t ++ part) content })) (n + lines) (lines_of rest)
  pub few : lines ≤ length part

-- the line `.` between two LFs (for inner functions)
abbrev pub end_between : List ℕ
end_between = 10 ∷ 46 ∷ 10 ∷ []

-- An LF is at this place, and before it none that has the line `.` after it (for inner functions).
pub record IsLastFeed (piece : List ℕ) (at : ℕ) : Type 0 where
  pub within : at < length piece
  pub feed : slice_index piece at ≡ 10
  pub before : (k : ℕ) → k < at → OccursAt piece end_between k → ⊥

-- `lines` lines that are read already are taken, and kept where the others are (for inner functions).
pub record TakesLines (lines : ℕ) (was is : TextFound) (old_text new_text : List ℕ) (old new : ByteSource) : Type 0 where
  pub part : List ℕ
  pub are : IsTextPart part lines
  pub taken : pending old ≡ part ++ pending new
  pub count : taken_count new ≡ taken_count old + length part
  pub holds : (content : Option (List ℕ)) → HoldsText was old_text content → HoldsText is new_text (option_map (λ t. t ++ part) content)

-- the code has the text of a unit, or has lost it
abbrev pub IsTextFound : TextFound → List ℕ → UnitText → Type 0
IsTextFound Absent held text = text ≡ none
IsTextFound Whole held text = text ≡ whole held
IsTextFound TooLong held text = text ≡ too_long
IsTextFound Unended held text = text ≡ unended
IsTextFound Lost held text = Unit {0}

-- This piece ends the unit whose text it begins: its lines are the text's, up to the line `.` or the script's end (for inner functions).
pub record IsText (found : TextRead) (before after : Option (List ℕ)) (held : List ℕ) (old new : ℕ) (piece : List ℕ) (text : UnitText) : Type 0 where
  pub consumes : Consumes before after piece
  pub splits : (asks : List ℕ → Bool) (number : ℕ) (line : List ℕ) (n : ℕ) (rest : List ℕ) → (found.is_full ≡ false → rest ≡ [])
      → cut asks (within (opened number line)) n (lines_of (piece ++ rest)) ≡ closed (opened number line) text found.is_full ∷ cut asks outside (n + found.lines) (lines_of rest)
  pub last : found.is_full ≡ false → IsAtEnd after
  pub holds : IsTextFound found.text held text
  pub count : new ≡ old + length piece
  pub lines : found.lines ≤ length piece

abbrev pub FindsText : TextRead → Option (List ℕ) → Option (List ℕ) → List ℕ → ℕ → ℕ → Type 0
FindsText found before after held old new = (piece : List ℕ) × (text : UnitText) × IsText found before after held old new piece text

-- A text was read to its end. Or the source stopped within it.
abbrev pub ReadsText : Result TextRead ScriptFault → (held : List ℕ) (old new : ByteSource) (before after : Option (List ℕ)) (failed : Bool) → Type 0
ReadsText result held old new before after failed =
    MatchResult result
    (λ found. FindsText found (unread old before) (unread new after) held (taken_count old) (taken_count new) × (failed ≡ false))
    (λ fault. StopsReading fault HasNoUnitWithin old new before after failed)
