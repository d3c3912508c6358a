-- Why a line of a script is refused: which parts of it are at fault, each by itself, and their order.
use Rattle.std.specs.Prelude.{◌≡◌, ◌+◌, ℕ, false, List, [], ◌∷◌, Option, Some, None, option_and_then, Result, Ok, Err}
use Rattle.std.specs.Str.{is_utf8}
use Rattle.acl_tree.specs.State.{State}
use Rattle.facl_output.specs.declared.fault.LineFault.{LineFault}
use Rattle.facl_output.specs.declared.fault.LineFault.TheVariants as faults
use Rattle.facl_script.specs.Units.{ScriptUnit, too_long, unended}
use Rattle.facl_script.specs.Words.{words_of}
use Rattle.facl_script.specs.Forms.{Text}
use Rattle.facl_tools.specs.TextWords.{words_by}
use Rattle.facl.specs.ToolParts as requests
use Rattle.facl.specs.FirstPart.{IsRefusedForFirst}
use Rattle.facl_tools.specs.Replies.{Reply}
use Rattle.acl_rights.specs.Deciders.{Judging}
use Rattle.facl.specs.ToolLines.{read_line}
use Rattle.facl.specs.Tools.{syntax_of, tool_named}
use Rattle.facl.specs.declared.tools.Tool.{Tool}
use Rattle.facl.specs.declared.tools.ToolLine.{ToolLine}
use Rattle.acl_rights.specs.declared.indexed.States.{States}
use Rattle.facl.specs.Counted.{answered, answer_of}
use Rattle.facl.specs.Units.{reply, text_of, tool_word, words_of_line}
use Rattle.acl_text.specs.Results.{◌>>=◌}

-- ---- the parts of a line, and their order

-- Where a fault of a line is: its length, its bytes, its quotes, the tool that it names, the end of the text after it,
-- the length of a line of that text, the words after the tool's name, or what these ask for.
pub data LinePart : Type 0 where
  in_length : LinePart
  in_bytes : LinePart
  in_quotes : LinePart
  in_tool : LinePart
  in_text_end : LinePart
  in_text_lines : LinePart
  in_words : LinePart
  in_request : requests.Part → LinePart

-- the order in which the parts are reported
abbrev pub rank : LinePart → ℕ
rank in_length = 0
rank in_bytes = 1
rank in_quotes = 2
rank in_tool = 3
rank in_text_end = 4
rank in_text_lines = 5
rank in_words = 6
rank (in_request part) = 7 + requests.rank part

abbrev pub place : LinePart → ℕ
place (in_request part) = requests.place part
place part = 0

-- ---- what a fault is about

-- the bytes of a line are not UTF-8
pub record IsNotUtf8 (u : ScriptUnit) : Type 0 where
  pub line : List ℕ
  pub is_line : u.line ≡ Some line
  pub bad : is_utf8 line ≡ false

-- a quote of a line has no end
pub record HasOpenQuote (u : ScriptUnit) : Type 0 where
  pub line : List ℕ
  pub is_line : u.line ≡ Some line
  pub open_quote : words_of line ≡ None

-- the first word of a line is this name, and these words are after it, whatever its bytes are
pub record HasWords (u : ScriptUnit) (name : Text) (words : List Text) : Type 0 where
  pub line : List ℕ
  pub is_line : u.line ≡ Some line
  pub split : words_of line ≡ Some (name ∷ words)

-- the first word of a line names no tool
pub record NamesNoTool (u : ScriptUnit) : Type 0 where
  pub name : Text
  pub words : List Text
  pub has : HasWords u name words
  pub unknown : tool_named name ≡ None

-- a line names this tool, and these words are after its name
pub record IsOfTool (u : ScriptUnit) (tool : Tool) (words : List Text) : Type 0 where
  pub name : Text
  pub has : HasWords u name words
  pub known : tool_named name ≡ Some tool

-- what the words after a tool's name ask for, where they are no usage
abbrev pub line_read : Tool → List Text → Option ToolLine
line_read tool words = option_and_then (read_line tool) (words_by (syntax_of tool) words)

-- the words after a tool's name are not such as it takes
pub record IsUsage (u : ScriptUnit) : Type 0 where
  pub tool : Tool
  pub words : List Text
  pub names : IsOfTool u tool words
  pub no_line : line_read tool words ≡ None

-- what a line asks its tool for, with the text after it, has this fault in this part
pub record IsRequestAtFault (s : State) (u : ScriptUnit) (part : requests.Part) (fault : LineFault) : Type 0 where
  pub tool : Tool
  pub words : List Text
  pub line : ToolLine
  pub text : List ℕ
  pub names : IsOfTool u tool words
  pub asks : line_read tool words ≡ Some line
  pub is_text : text_of u.text ≡ Ok text
  pub at_fault : requests.IsAtFault s line text part fault

-- ---- which parts are at fault at the present state, whatever other ones are; neither a judge nor the state after the
-- texts were loaded matters

abbrev pub IsAtFault : State → ScriptUnit → LinePart → LineFault → Type 0
IsAtFault s u in_length fault = (fault ≡ faults.LineTooLong) × (u.line ≡ None)
IsAtFault s u in_bytes fault = (fault ≡ faults.NotUtf8) × IsNotUtf8 u
IsAtFault s u in_quotes fault = (fault ≡ faults.OpenQuote) × HasOpenQuote u
IsAtFault s u in_tool fault = (fault ≡ faults.UnknownTool) × NamesNoTool u
IsAtFault s u in_text_end fault = (fault ≡ faults.UnendedText) × (u.text ≡ unended)
IsAtFault s u in_text_lines fault = (fault ≡ faults.TextLineTooLong) × (u.text ≡ too_long)
IsAtFault s u in_words fault = (fault ≡ faults.Usage) × IsUsage u
IsAtFault s u (in_request part) fault = IsRequestAtFault s u part fault

-- ---- what is answered

-- the reply to a line, or its fault
abbrev pub outcome : Judging → States → ScriptUnit → Result Reply LineFault
outcome judge w u = words_of_line u.line >>= reply judge w u.text

-- the name in the words of a line, if it has words
abbrev pub name_in : Result (List Text) LineFault → Text
name_in (Ok words) = tool_word words
name_in (Err fault) = []

-- what a unit does is the reply to its line, or it is refused for the first of its parts that is at fault
pub record IsAnsweredByFirst (judge : Judging) (w : States) (u : ScriptUnit) : Type 0 where
  pub answer : answered judge false u w ≡ answer_of u.number (name_in (words_of_line u.line)) w (outcome judge w u)
  pub first : IsRefusedForFirst rank place (IsAtFault w.now u) (outcome judge w u)
