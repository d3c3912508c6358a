-- who: the users who may do something with a file. The state stays as it is.
use Rattle.std.specs.Prelude.{[], ◌∷◌, Bool, codes, refl, Option, Result, ok_or, option_and_then, option_map, Ok}
use Rattle.facl_tools.specs.Asked.{has, operand}
use Rattle.facl_answers.specs.Answers.{who_text}
use Rattle.acl_entry.specs.Perms.{Perms}
use Rattle.acl_tree.specs.declared.fault.TreeFault.TheVariants.{NoSuchFile}
use Rattle.acl_names.specs.Paths.{PathOf}
use Rattle.acl_tree.specs.State.{State}
use Rattle.acl_rights.specs.Rows.{Verdict}
use Rattle.facl_script.specs.Forms.{Text, file_of}
use Rattle.facl_script.specs.Syntax.{Syntax, by_name, one}
use Rattle.facl_script.specs.declared.tool_words.Words.{Words}
use Rattle.facl_output.specs.declared.fault.LineFault.{LineFault}
use Rattle.facl_output.specs.declared.fault.LineFault.TheVariants.{Tree}
use Rattle.facl_tools.specs.Operands.{path_at}
use Rattle.facl_tools.specs.Readers.{permissions_of}
use Rattle.facl_tools.specs.Replies.{Reply, printed}
use Rattle.facl.specs.declared.tools.who.WhoLine.{WhoLine}
use Rattle.acl_text.specs.Results.{◌>>=◌}

abbrev pub syntax : Syntax
syntax = record { flags = by_name (codes "reach") ∷ []; options = []; operands = one (codes "perms") ∷ one (codes "file") ∷ [] }

-- the line that words give, unless they are usage
abbrev pub read : Words → Option WhoLine
read w =
    option_and_then
    (λ request. option_map (λ file. record { reach = has syntax w (codes "reach") refl; request = request; file = file }) (file_of (operand syntax w (codes "file") refl)))
    (permissions_of (operand syntax w (codes "perms") refl))

-- the users who are granted a request on the file of a path
abbrev pub who_at : Verdict → Bool → State → Perms → PathOf → Result Text LineFault
who_at verdict along s request path = ok_or (who_text verdict along s request path) (Tree (NoSuchFile path))

-- the users who are granted a request on the file that a word means
abbrev pub who_of : Verdict → Bool → State → Text → Perms → Result Text LineFault
who_of verdict along s word request = path_at 1 word >>= who_at verdict along s request

-- these users are printed
abbrev pub answered : Verdict → State → WhoLine → Result Reply LineFault
answered verdict s line = who_of verdict line.reach s line.file line.request >>= λ out. Ok (printed s out)
