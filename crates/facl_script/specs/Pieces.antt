-- How units are in a script: here the script is given by its units; in specs/Units.antt the units by the script.
use Rattle.std.specs.Prelude.{◌≡◌, ◌<◌, ◌+◌, ◌==◌, ◌⊎◌, ℕ, Bool, true, false, if◌then◌else◌, nat_le, List, [], ◌∷◌, ◌++◌, length, filter, Some}
use Rattle.std.specs.List.{AllByRecursion, flat_map, list_all}
use Rattle.facl_script.specs.Limits.{line_limit}
use Rattle.facl_script.specs.Lines.{HasNoLineFeed, spelled}
use Rattle.facl_script.specs.Units.{ScriptUnit, UnitText, none, whole, too_long, unended, within_limit, takes_text}

-- the line `.`
abbrev pub end_line : List ℕ
end_line = 46 ∷ []

-- lines, each with its LF
abbrev pub with_line_feeds : List (List ℕ) → List ℕ
with_line_feeds lines = flat_map (λ line. spelled line true) lines

-- lines of a text: no line is `.`
abbrev pub AreTextLines : List (List ℕ) → Type 0
AreTextLines lines = AllByRecursion (λ line. HasNoLineFeed line × (line ≡ end_line → ⊥)) lines

-- the text that these lines make, each with its LF, if none is over the limit
abbrev pub text_of : List (List ℕ) → UnitText
text_of lines = if list_all (λ line. nat_le (length line) line_limit) lines then whole (with_line_feeds lines) else too_long

-- the unit is a line that takes no text
pub record IsLine (asks : List ℕ → Bool) (unit : ScriptUnit) (piece : List ℕ) : Type 0 where
  pub line : List ℕ
  pub no_line_feed : HasNoLineFeed line
  pub takes : takes_text asks line ≡ false
  pub line_is : unit.line ≡ within_limit line
  pub text_is : unit.text ≡ none
  pub piece_is : piece ≡ spelled line unit.is_full

-- the unit is a line, the lines of its text, and the line `.`
pub record IsLineWithText (asks : List ℕ → Bool) (unit : ScriptUnit) (piece : List ℕ) : Type 0 where
  pub line : List ℕ
  pub lines : List (List ℕ)
  pub no_line_feed : HasNoLineFeed line
  pub takes : takes_text asks line ≡ true
  pub lines_are : AreTextLines lines
  pub line_is : unit.line ≡ Some line
  pub text_is : unit.text ≡ text_of lines
  pub piece_is : piece ≡ spelled line true ++ (with_line_feeds lines ++ spelled end_line unit.is_full)

-- the lines of a text without the line `.`, the last of which has no LF
pub record IsTextWithoutEnd (bytes : List ℕ) : Type 0 where
  pub lines : List (List ℕ)
  pub last : List ℕ
  pub lines_are : AreTextLines (last ∷ lines)
  pub bytes_are : bytes ≡ with_line_feeds lines ++ last

-- the unit is a line that takes a text, and the script ends before the line `.`
pub record IsLineWithoutEnd (asks : List ℕ → Bool) (unit : ScriptUnit) (piece : List ℕ) : Type 0 where
  pub line : List ℕ
  pub no_line_feed : HasNoLineFeed line
  pub takes : takes_text asks line ≡ true
  pub line_is : unit.line ≡ Some line
  pub text_is : unit.text ≡ unended
  pub full_is : unit.is_full ≡ false
  pub piece_is : (piece ≡ line) ⊎ ((bytes : List ℕ) × IsTextWithoutEnd bytes × (piece ≡ spelled line true ++ bytes))

-- this piece of a script is the unit
abbrev pub IsPiece : (List ℕ → Bool) → ScriptUnit → List ℕ → Type 0
IsPiece asks unit piece = IsLine asks unit piece ⊎ (IsLineWithText asks unit piece ⊎ IsLineWithoutEnd asks unit piece)

-- how many LFs there are
abbrev pub line_feeds : List ℕ → ℕ
line_feeds bytes = length (filter (λ b. b == 10) bytes)

-- The bytes are these units, one right after another. The first has this number, and the next its number and the LFs of the first.
-- A unit that is not full is the last.
abbrev pub AreUnits : (List ℕ → Bool) → ℕ → List ScriptUnit → List ℕ → Type 0
AreUnits asks n [] bytes = bytes ≡ []
AreUnits asks n (u ∷ us) bytes =
    (piece : List ℕ) × (rest : List ℕ) × (bytes ≡ piece ++ rest) × (0 < length piece) × (u.is_full ≡ false → rest ≡ []) × (u.number ≡ n) × IsPiece asks u piece
    × AreUnits asks (n + line_feeds piece) us rest
