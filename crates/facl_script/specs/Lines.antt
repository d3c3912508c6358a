-- The lines of a script.
use Rattle.std.specs.Prelude.{◌≡◌, ◌<◌, ◌≤◌, ℕ, Bool, true, false, ◌==◌, if◌then◌else◌, List, [], ◌∷◌, ◌++◌, length}
use Rattle.facl_script.specs.Limits.{line_limit}

-- a line without its LF, and whether it has one
pub record Line : Type 0 where
  pub bytes : List ℕ
  pub ended : Bool

-- a byte that is not LF goes to the front of the first line
abbrev pub onto : ℕ → List Line → List Line
onto b [] = record { bytes = b ∷ []; ended = false } ∷ []
onto b (l ∷ ls) = record { bytes = b ∷ l.bytes; ended = l.ended } ∷ ls

abbrev pub lines_of : List ℕ → List Line
lines_of [] = []
lines_of (b ∷ bs) = if b == 10 then record { bytes = []; ended = true } ∷ lines_of bs else onto b (lines_of bs)

-- no byte is an LF
abbrev pub HasNoLineFeed : List ℕ → Type 0
HasNoLineFeed [] = Unit {0}
HasNoLineFeed (b ∷ bs) = ((b == 10) ≡ false) × HasNoLineFeed bs

-- the bytes of a line as it is in the script
abbrev pub spelled : List ℕ → Bool → List ℕ
spelled text true = text ++ 10 ∷ []
spelled text false = text

-- of a line that begins with this text the code has these bytes: all of it, or just that it is too long (for inner functions)
abbrev pub Held : Bool → List ℕ → List ℕ → Type 0
Held true held text = line_limit < length text
Held false held text = (held ≡ text) × (length text ≤ line_limit)
