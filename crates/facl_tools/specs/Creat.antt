-- creat: a new file, with what it inherits from its directory.
use Rattle.std.specs.Prelude.{ℕ, [], ◌∷◌, Bool, codes, refl, if◌then◌else◌, Option, option_and_then, option_map, Result, Ok}
use Rattle.acl_edit.specs.declared.node.Kind.{Kind}
use Rattle.acl_edit.specs.declared.node.Kind.TheVariants.{Plain, Directory}
use Rattle.acl_tree.specs.declared.command.NewFile.{NewFile}
use Rattle.acl_tree.specs.Creat.{creat}
use Rattle.acl_tree.specs.State.{State, with_tree}
use Rattle.acl_tree.specs.declared.user_change.UserChange.TheVariants.{Unchanged}
use Rattle.facl_script.specs.Forms.{Text, file_of}
use Rattle.facl_script.specs.Syntax.{Syntax, by_letter, by_name, by_name_or, one}
use Rattle.facl_script.specs.declared.tool_words.Words.{Words}
use Rattle.facl_output.specs.declared.fault.LineFault.{LineFault}
use Rattle.facl_tools.specs.Asked.{has, operand, value}
use Rattle.facl_tools.specs.Modes.{permission_mode_of}
use Rattle.facl_tools.specs.Operands.{path_at, name_meant}
use Rattle.facl_tools.specs.Replies.{Reply, replied}
use Rattle.facl_tools.specs.declared.creat.CreatLine.{CreatLine}
use Rattle.acl_text.specs.Results.{◌>>=◌}

abbrev pub syntax : Syntax
syntax = record {
  flags = by_letter (codes "d") ∷ [];
  options = by_name (codes "user")
      ∷ by_name (codes "mode")
      ∷ by_name_or (codes "umask") (codes "022") ∷ [];
  operands = one (codes "file") ∷ [];
}

-- the mode of an option
abbrev pub mode_given : Option Text → Option ℕ
mode_given word = option_and_then permission_mode_of word

abbrev pub kind_of : Bool → Kind
kind_of is_directory = if is_directory then Directory else Plain

-- the line that words give, unless they are usage
abbrev pub read : Words → Option CreatLine
read w =
    option_and_then
    (λ user. option_and_then
    (λ mode. option_and_then
    (λ umask. option_map
    (λ file. record { kind = kind_of (has syntax w (codes "d") refl); user = user; mode = mode; umask = umask; file = file })
    (file_of (operand syntax w (codes "file") refl)))
    (mode_given (value syntax w (codes "umask") refl)))
    (mode_given (value syntax w (codes "mode") refl)))
    (value syntax w (codes "user") refl)

abbrev pub new_file : CreatLine → Result NewFile LineFault
new_file line = do
  path ← path_at 1 line.file
  Ok (record { path = path; kind = line.kind; user = name_meant line.user; mode = line.mode; umask = line.umask })

-- the file is made
abbrev pub answered : State → CreatLine → Result Reply LineFault
answered s line = new_file line >>= λ new. replied Unchanged (creat new s.people s.tree >>= with_tree s)
