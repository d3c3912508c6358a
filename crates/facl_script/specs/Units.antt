-- The units of a script: each line, with its text if it takes one. Which lines ask for a text is an argument.
use Rattle.std.specs.Prelude.{◌≡◌, ◌+◌, ◌==◌, ℕ, Bool, false, ◌&&◌, if◌then◌else◌, nat_le, List, [], ◌∷◌, ◌++◌, length, filter, Option, None, Some}
use Rattle.facl_script.specs.Limits.{line_limit}
use Rattle.facl_script.specs.Lines.{Line, lines_of}

-- What a unit has beside its line: nothing, or the lines up to its line `.`, each with its LF.
-- One of these lines may be over the limit, or the script may end before the line `.`, which counts first.
pub data UnitText : Type 0 where
  none : UnitText
  whole : List ℕ → UnitText
  too_long : UnitText
  unended : UnitText

-- A line with its number and its text. A line over the limit is `None`. A unit is full if its last line ends with an LF.
pub record ScriptUnit : Type 0 where
  pub number : ℕ
  pub line : Option (List ℕ)
  pub text : UnitText
  pub is_full : Bool

-- a line, if it is within the limit
abbrev pub within_limit : List ℕ → Option (List ℕ)
within_limit line = if nat_le (length line) line_limit then Some line else None

-- The lines after this one are its text: it asks for one, and is within the limit.
abbrev pub takes_text : (List ℕ → Bool) → List ℕ → Bool
takes_text asks line = nat_le (length line) line_limit && asks line

-- a line asks for a text, as far as it is within the limit
abbrev pub line_takes : (List ℕ → Bool) → Option (List ℕ) → Bool
line_takes asks None = false
line_takes asks (Some line) = asks line

-- the line `.`, which ends a text
abbrev pub is_end : List ℕ → Bool
is_end [] = false
is_end (b ∷ []) = b == 46
is_end (b ∷ c ∷ bs) = false

-- a text and one more line of it; there is none from a line over the limit on
abbrev pub more_text : Option (List ℕ) → List ℕ → Option (List ℕ)
more_text None line = None
more_text (Some text) line = if nat_le (length line) line_limit then Some (text ++ (line ++ 10 ∷ [])) else None

abbrev pub ended_text : Option (List ℕ) → UnitText
ended_text None = too_long
ended_text (Some text) = whole text

-- a unit whose text is being read
pub record Open : Type 0 where
  pub number : ℕ
  pub line : List ℕ
  pub text : Option (List ℕ)

-- a unit whose text begins
abbrev pub opened : ℕ → List ℕ → Open
opened number line = record { number = number; line = line; text = Some [] }

abbrev pub with_text_line : Open → List ℕ → Open
with_text_line o line = record { number = o.number; line = o.line; text = more_text o.text line }

abbrev pub closed : Open → UnitText → Bool → ScriptUnit
closed o text full = record { number = o.number; line = Some o.line; text = text; is_full = full }

-- between units, or in the text of one
pub data Mode : Type 0 where
  outside : Mode
  within : Open → Mode

-- the units of these lines, of which the first has this number; lines of texts are counted too
abbrev pub cut : (List ℕ → Bool) → Mode → ℕ → List Line → List ScriptUnit
cut asks outside n [] = []
cut asks (within o) n [] = closed o unended false ∷ []
cut asks outside n (l ∷ ls) =
    if takes_text asks l.bytes then cut asks (within (opened n l.bytes)) (n + 1) ls
    else record { number = n; line = within_limit l.bytes; text = none; is_full = l.ended } ∷ cut asks outside (n + 1) ls
cut asks (within o) n (l ∷ ls) =
    if is_end l.bytes then closed o (ended_text o.text) l.ended ∷ cut asks outside (n + 1) ls else cut asks (within (with_text_line o l.bytes)) (n + 1) ls

abbrev pub units_of : (List ℕ → Bool) → List ℕ → List ScriptUnit
units_of asks script = cut asks outside 1 (lines_of script)

abbrev pub full_units : List ScriptUnit → List ScriptUnit
full_units units = filter (λ u. u.is_full) units

-- these bytes, from the beginning of a unit on, make no full unit
abbrev pub HasNoUnit : (List ℕ → Bool) → List ℕ → Type 0
HasNoUnit asks tail = (n : ℕ) → full_units (cut asks outside n (lines_of tail)) ≡ []

-- nor do these from the beginning of a text on (for inner functions)
abbrev pub HasNoUnitWithin : List ℕ → Type 0
HasNoUnitWithin tail = (asks : List ℕ → Bool) (number : ℕ) (line : List ℕ) (n : ℕ) → full_units (cut asks (within (opened number line)) n (lines_of tail)) ≡ []
