-- What a unit of a script does: a line, with its text if it takes one.
use Rattle.std.specs.Prelude.{ℕ, Bool, true, false, if◌then◌else◌, List, [], ◌∷◌, Option, Result, Ok, Err, ok_or}
use Rattle.std.specs.Option.{option_map_or}
use Rattle.facl_script.specs.Units.{ScriptUnit, UnitText, none, whole, too_long, unended}
use Rattle.facl_script.specs.Words.{has_no_words, line_words}
use Rattle.facl_script.specs.Forms.{Text}
use Rattle.facl_output.specs.Faults.{line_fault_of_split}
use Rattle.facl_output.specs.Messages.{message, warning}
use Rattle.facl_output.specs.declared.fault.LineFault.{LineFault}
use Rattle.facl_output.specs.declared.fault.LineFault.TheVariants.{LineTooLong, UnknownTool, UnendedText, TextLineTooLong, NoMemory}
use Rattle.facl_tools.specs.Replies.{Reply, printed}
use Rattle.acl_rights.specs.Deciders.{Judging}
use Rattle.facl.specs.Tools.{loads, tool_line, tool_named}
use Rattle.facl.specs.declared.tools.Tool.{Tool}
use Rattle.acl_rights.specs.declared.indexed.States.{States}
use Rattle.acl_rights.specs.States.{states_after}
use Rattle.acl_text.specs.Results.{◌>>=◌, map_err}

-- whether the tool of this name loads a text
abbrev pub loads_by_name : Text → Bool
loads_by_name name = option_map_or loads (tool_named name) false

-- a line that is blank or a comment, as far as it is within the limit
abbrev pub is_silent : Option (List ℕ) → Bool
is_silent line = option_map_or has_no_words line false

-- ---- what a line asks for

-- the words of a line, or what is wrong with it as a line
abbrev pub words_of_line : Option (List ℕ) → Result (List Text) LineFault
words_of_line line = ok_or line LineTooLong >>= λ bytes. map_err line_fault_of_split (line_words bytes)

-- the text of a line, which is empty where it takes none
abbrev pub text_of : UnitText → Result (List ℕ) LineFault
text_of none = Ok []
text_of (whole text) = Ok text
text_of too_long = Err TextLineTooLong
text_of unended = Err UnendedText

-- ---- what is answered

-- what a tool does with the text and the words after its name
abbrev pub tool_reply : Judging → States → UnitText → List Text → Tool → Result Reply LineFault
tool_reply judge w text words tool = text_of text >>= tool_line judge w.loaded w.now tool words

-- what the words of a line do: its reply, or its first fault
abbrev pub reply : Judging → States → UnitText → List Text → Result Reply LineFault
reply judge w text [] = Ok (printed w.now [])
reply judge w text (name ∷ words) = ok_or (tool_named name) UnknownTool >>= tool_reply judge w text words

-- what units write to out and to err, the states that they leave, and whether one of them was refused
pub record UnitAnswer : Type 0 where
  pub out : List ℕ
  pub err : List ℕ
  pub state : States
  pub refused : Bool

-- nothing is written, and nothing changes
abbrev pub quiet : States → UnitAnswer
quiet w = record { out = []; err = []; state = w; refused = false }

-- a refused line leaves the states, and its message names its number, its tool and the fault
abbrev pub refused : ℕ → Text → LineFault → States → UnitAnswer
refused number tool fault w = record { out = []; err = message number tool fault; state = w; refused = true }

-- an accepted line may warn of default entries that were dropped
abbrev pub accepted : ℕ → (loads : Bool) → States → Reply → UnitAnswer
accepted number loads w r = record { out = r.out; err = if r.warns then warning number else []; state = states_after loads w r.state; refused = false }

abbrev pub answer_of : ℕ → Text → States → Result Reply LineFault → UnitAnswer
answer_of number tool w (Ok r) = accepted number (loads_by_name tool) w r
answer_of number tool w (Err fault) = refused number tool fault w

-- the first word, which names the tool
abbrev pub tool_word : List Text → Text
tool_word [] = []
tool_word (name ∷ words) = name

abbrev pub answer_of_words : Judging → ScriptUnit → States → Result (List Text) LineFault → UnitAnswer
answer_of_words judge u w (Ok words) = answer_of u.number (tool_word words) w (reply judge w u.text words)
answer_of_words judge u w (Err fault) = refused u.number [] fault w

-- what a unit does: nothing where its line is blank or a comment; any other line is refused with its first fault, or does
-- what it asks for; where memory runs out for it, it is refused with that message
abbrev pub answered : Judging → (ran_out : Bool) → ScriptUnit → States → UnitAnswer
answered judge ran_out u w =
    if is_silent u.line then quiet w
    else if ran_out then refused u.number [] NoMemory w
    else answer_of_words judge u w (words_of_line u.line)
