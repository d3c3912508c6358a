-- gains: what each user has gained and lost so far, on how many files. The state stays as it is.
use Rattle.std.specs.Prelude.{[], ◌∷◌, codes, refl, Result, Ok}
use Rattle.facl_tools.specs.Asked.{has}
use Rattle.facl_counts.specs.GainsText.{gains_text}
use Rattle.acl_tree.specs.State.{State}
use Rattle.acl_rights.specs.Rows.{Verdict}
use Rattle.facl_script.specs.Syntax.{Syntax, by_name}
use Rattle.facl_script.specs.declared.tool_words.Words.{Words}
use Rattle.facl_output.specs.declared.fault.LineFault.{LineFault}
use Rattle.facl_tools.specs.Replies.{Reply, printed}
use Rattle.facl.specs.declared.tools.gains.GainsLine.{GainsLine}

abbrev pub syntax : Syntax
syntax = record { flags = by_name (codes "reach") ∷ []; options = []; operands = [] }

-- the line that words give
abbrev pub read : Words → GainsLine
read w = record { reach = has syntax w (codes "reach") refl }

-- what each user has gained and lost since the texts were loaded is printed
abbrev pub answered : Verdict → (loaded now : State) → GainsLine → Result Reply LineFault
answered verdict loaded s line = Ok (printed s (gains_text verdict line.reach loaded s))
