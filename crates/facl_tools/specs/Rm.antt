-- rm(1).
use Rattle.std.specs.Prelude.{[], ◌∷◌, codes, refl, Option, option_map, Result}
use Rattle.acl_tree.specs.Rm.{rm}
use Rattle.acl_tree.specs.State.{State, with_tree}
use Rattle.acl_tree.specs.declared.user_change.UserChange.TheVariants.{Unchanged}
use Rattle.facl_script.specs.Forms.{files_of}
use Rattle.facl_script.specs.Syntax.{Syntax, by_letter, some}
use Rattle.facl_script.specs.declared.tool_words.Words.{Words}
use Rattle.facl_output.specs.declared.fault.LineFault.{LineFault}
use Rattle.facl_tools.specs.Asked.{has, operands_from}
use Rattle.facl_tools.specs.Operands.{paths_from}
use Rattle.facl_tools.specs.Replies.{Reply, replied}
use Rattle.facl_tools.specs.declared.rm.RmLine.{RmLine}
use Rattle.acl_text.specs.Results.{◌>>=◌}

abbrev pub syntax : Syntax
syntax = record { flags = by_letter (codes "r") ∷ []; options = []; operands = some (codes "file") ∷ [] }

-- the line that words give, unless they are usage
abbrev pub read : Words → Option RmLine
read w =
    option_map (λ files. record { recursive = has syntax w (codes "r") refl; files = files }) (files_of (operands_from syntax w (codes "file") refl))

-- the files are removed
abbrev pub answered : State → RmLine → Result Reply LineFault
answered s line = paths_from 1 line.files >>= λ paths. replied Unchanged (rm line.recursive paths s.tree >>= with_tree s)
