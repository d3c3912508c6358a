-- chmod(1), with an octal mode.
use Rattle.std.specs.Prelude.{[], ◌∷◌, codes, refl, Option, option_and_then, option_map, Result}
use Rattle.acl_tree.specs.Chmod.{chmod}
use Rattle.acl_tree.specs.State.{State}
use Rattle.acl_tree.specs.declared.user_change.UserChange.TheVariants.{Unchanged}
use Rattle.facl_script.specs.Forms.{files_of}
use Rattle.facl_script.specs.Syntax.{Syntax, by_letter, one, some}
use Rattle.facl_script.specs.declared.tool_words.Words.{Words}
use Rattle.facl_output.specs.declared.fault.LineFault.{LineFault}
use Rattle.facl_tools.specs.Asked.{has, operand, operands_from}
use Rattle.facl_tools.specs.Modes.{mode_of}
use Rattle.facl_tools.specs.Operands.{paths_from}
use Rattle.facl_tools.specs.Replies.{Reply, replied}
use Rattle.facl_tools.specs.declared.chmod.ChmodLine.{ChmodLine}
use Rattle.acl_text.specs.Results.{◌>>=◌}

abbrev pub syntax : Syntax
syntax = record { flags = by_letter (codes "R") ∷ []; options = []; operands = one (codes "mode") ∷ some (codes "file") ∷ [] }

-- the line that words give, unless they are usage
abbrev pub read : Words → Option ChmodLine
read w =
    option_and_then
    (λ mode. option_map (λ files. record { recursive = has syntax w (codes "R") refl; mode = mode; files = files }) (files_of (operands_from syntax w (codes "file") refl)))
    (mode_of (operand syntax w (codes "mode") refl))

-- the mode is put into the files
abbrev pub answered : State → ChmodLine → Result Reply LineFault
answered s line = paths_from 1 line.files >>= λ paths. replied Unchanged (chmod line.recursive paths line.mode s)
