-- changes: what the script has changed so far in who may do what. The state stays as it is.
use Rattle.std.specs.Prelude.{[], ◌∷◌, codes, refl, Result, Ok}
use Rattle.facl_tools.specs.Asked.{has}
use Rattle.facl_answers.specs.ChangesText.{changes_text}
use Rattle.acl_tree.specs.State.{State}
use Rattle.acl_rights.specs.Rows.{Verdict}
use Rattle.facl_script.specs.Syntax.{Syntax, by_name}
use Rattle.facl_script.specs.declared.tool_words.Words.{Words}
use Rattle.facl_output.specs.declared.fault.LineFault.{LineFault}
use Rattle.facl_tools.specs.Replies.{Reply, printed}
use Rattle.facl.specs.declared.tools.changes.ChangesLine.{ChangesLine}

abbrev pub syntax : Syntax
syntax = record { flags = by_name (codes "reach") ∷ []; options = []; operands = [] }

-- the line that words give
abbrev pub read : Words → ChangesLine
read w = record { reach = has syntax w (codes "reach") refl }

-- what differs from the state after the texts were loaded is printed
abbrev pub answered : Verdict → (loaded now : State) → ChangesLine → Result Reply LineFault
answered verdict loaded s line = Ok (printed s (changes_text verdict line.reach loaded s))
