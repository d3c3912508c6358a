-- The message of a refused line, the warning of an accepted one, and what the program prints of a run that ended early.
use Rattle.std.specs.Prelude.{ℕ, List, [], ◌∷◌, ◌++◌, codes, decimal}
use Rattle.acl_tree.specs.declared.command.Table.{Table}
use Rattle.acl_tree.specs.declared.command.Table.TheVariants.{Passwd, Group, Dump}
use Rattle.acl_tree.specs.declared.fault.TreeFault.{TreeFault}
use Rattle.facl_output.specs.declared.fault.LineFault.{LineFault}
use Rattle.facl_output.specs.declared.fault.LineFault.TheVariants.{LineTooLong, NotUtf8, OpenQuote, UnknownTool, UnendedText, TextLineTooLong, Usage, Text, Both, Tree, NoMemory}
use Rattle.facl_output.specs.declared.fault.RunFault.{RunFault}
use Rattle.facl_output.specs.declared.fault.RunFault.TheVariants as runs
use Rattle.facl_output.specs.Texts.{text_fault_text, tree_text}

-- ---- lines

abbrev pub line_text : LineFault → List ℕ
line_text LineTooLong = codes "line too long"
line_text NotUtf8 = codes "not UTF-8"
line_text OpenQuote = codes "open quote"
line_text UnknownTool = codes "unknown tool"
line_text UnendedText = codes "text without end"
line_text TextLineTooLong = codes "text line too long"
line_text Usage = codes "usage"
line_text (Text source fault) = text_fault_text source fault
line_text (Both at) = codes "entry " ++ decimal at ++ codes ": both removed and modified"
line_text (Tree fault) = tree_text fault
line_text NoMemory = codes "no memory"

-- who reports a fault: the tool, from the reading of its own words on; before that, and where memory ran out, the program
abbrev pub reporter : List ℕ → LineFault → List ℕ
reporter tool LineTooLong = codes "facl"
reporter tool NotUtf8 = codes "facl"
reporter tool OpenQuote = codes "facl"
reporter tool UnknownTool = codes "facl"
reporter tool UnendedText = codes "facl"
reporter tool TextLineTooLong = codes "facl"
reporter tool Usage = tool
reporter tool (Text source fault) = tool
reporter tool (Both at) = tool
reporter tool (Tree fault) = tool
reporter tool NoMemory = codes "facl"

-- `line N: `
abbrev pub numbered : ℕ → List ℕ
numbered number = codes "line " ++ decimal number ++ codes ": "

-- `line N: TOOL: `
abbrev pub head : ℕ → List ℕ → List ℕ
head number reported_by = numbered number ++ reported_by ++ codes ": "

-- `line N: TOOL: TEXT`, and a line feed
unfoldable pub message : ℕ → List ℕ → LineFault → List ℕ
message number tool fault = head number (reporter tool fault) ++ line_text fault ++ 10 ∷ []

-- what setfacl(1) warns of where `-d` drops default entries, and a line feed
unfoldable pub warning : ℕ → List ℕ
warning number = head number (codes "setfacl") ++ codes "warning: default entries dropped" ++ 10 ∷ []

-- ---- runs

abbrev pub table_name : Table → List ℕ
table_name Passwd = codes "passwd"
table_name Group = codes "group"
table_name Dump = codes "dump"

abbrev pub setup_text : Table → TreeFault → List ℕ
setup_text which fault = codes "setup: " ++ table_name which ++ codes ": " ++ tree_text fault

abbrev pub run_fault_text : RunFault → List ℕ
run_fault_text runs.Read = codes "read fault"
run_fault_text runs.Write = codes "write fault"
run_fault_text (runs.Setup which fault) = setup_text which fault
run_fault_text runs.ScriptTooLong = codes "script too long"
run_fault_text runs.NoMemory = codes "no memory"
