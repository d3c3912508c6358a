-- A session that gives back each line and its text. Its state is whether it has refused a unit. Its lines that begin
-- with `l` or `y` ask for a text.
use Rattle.std.specs.Prelude.{◌==◌, ◌||◌, ℕ, Bool, true, false, if◌then◌else◌, List, [], ◌∷◌, ◌++◌, codes, Option, None, Some}
use Rattle.facl_script.specs.Units.{ScriptUnit, UnitText, none, whole, too_long, unended}
use Rattle.facl_script.specs.Words.{has_no_words}
use Rattle.facl_script.specs.Play.{Answer, quiet}

abbrev pub asks : List ℕ → Bool
asks [] = false
asks (b ∷ bs) = b == 108 || b == 121

abbrev pub refusal : List ℕ → Answer Bool
refusal why = record { out = []; err = why; state = true; refused = true; cost = 0 }

abbrev pub echo : List ℕ → Bool → Answer Bool
echo bytes state = record { out = bytes; err = []; state = state; refused = false; cost = 0 }

abbrev pub echo_text : List ℕ → UnitText → Bool → Answer Bool
echo_text line none state = echo (line ++ 10 ∷ []) state
echo_text line (whole text) state = echo ((line ++ 10 ∷ []) ++ text) state
echo_text line too_long state = refusal (codes "text line too long\n")
echo_text line unended state = refusal (codes "text without end\n")

abbrev pub echo_line : Option (List ℕ) → UnitText → Bool → Answer Bool
echo_line None text state = refusal (codes "line too long\n")
echo_line (Some line) text state = echo_text line text state

abbrev pub is_silent : Option (List ℕ) → Bool
is_silent None = false
is_silent (Some line) = has_no_words line

-- a unit for which memory runs out is refused without a message
abbrev pub echoed : Bool → ScriptUnit → Bool → Answer Bool
echoed ran_out u state = if is_silent u.line then quiet state else if ran_out then refusal [] else echo_line u.line u.text state

abbrev pub echoed_there : ScriptUnit → Bool → Answer Bool
echoed_there u state = echo_line u.line u.text state
