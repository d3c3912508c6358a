-- can: what a user may do with a file. The state stays as it is.
use Rattle.std.specs.Prelude.{ℕ, [], ◌∷◌, Bool, codes, refl, Option, Result, Ok, ok_or, option_map}
use Rattle.acl_rights.specs.Verdicts.{can_requests}
use Rattle.facl_tools.specs.Asked.{has, operand}
use Rattle.facl_answers.specs.Requests.{requests_line}
use Rattle.acl_tree.specs.declared.fault.TreeFault.TheVariants.{NoSuchFile}
use Rattle.acl_names.specs.Paths.{PathOf}
use Rattle.acl_tree.specs.State.{State}
use Rattle.acl_rights.specs.Rows.{Verdict}
use Rattle.facl_script.specs.Forms.{Text, file_of}
use Rattle.facl_script.specs.Syntax.{Syntax, by_name, one}
use Rattle.facl_script.specs.declared.tool_words.Words.{Words}
use Rattle.facl_output.specs.declared.fault.LineFault.{LineFault}
use Rattle.facl_output.specs.declared.fault.LineFault.TheVariants.{Tree}
use Rattle.facl_tools.specs.Operands.{path_at, name_meant, user_at}
use Rattle.facl_tools.specs.Replies.{Reply, printed}
use Rattle.facl.specs.declared.tools.can.CanLine.{CanLine}
use Rattle.acl_text.specs.Results.{◌>>=◌}

abbrev pub syntax : Syntax
syntax = record { flags = by_name (codes "reach") ∷ []; options = []; operands = one (codes "user") ∷ one (codes "file") ∷ [] }

-- the line that words give, unless they are usage
abbrev pub read : Words → Option CanLine
read w =
    option_map (λ file. record { reach = has syntax w (codes "reach") refl; user = operand syntax w (codes "user") refl; file = file })
    (file_of (operand syntax w (codes "file") refl))

-- what the user at a place may do with the file of a path, with `along` only where the user can search the path
abbrev pub requests_at : Verdict → Bool → State → PathOf → ℕ → Result Text LineFault
requests_at verdict along s path user = do
  granted ← ok_or (can_requests verdict along s user path) (Tree (NoSuchFile path))
  Ok (requests_line granted)

-- what the user that a word means may do with the file of a path
abbrev pub can_of : Verdict → Bool → State → Text → PathOf → Result Text LineFault
can_of verdict along s word path = user_at s.people (name_meant word) >>= requests_at verdict along s path

-- what the user may do with the file is printed
abbrev pub answered : Verdict → State → CanLine → Result Reply LineFault
answered verdict s line = path_at 1 line.file >>= can_of verdict line.reach s line.user >>= λ out. Ok (printed s out)
