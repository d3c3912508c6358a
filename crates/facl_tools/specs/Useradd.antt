-- useradd(8): a new user.
use Rattle.std.specs.Prelude.{ℕ, [], ◌∷◌, codes, refl, if◌then◌else◌, Option, None, Some, option_and_then, option_map, Result}
use Rattle.acl_names.specs.Names.{decoded}
use Rattle.acl_text.specs.UserNames.{is_user_name}
use Rattle.acl_text.specs.Ids.{id_of}
use Rattle.acl_text.specs.Results.{◌>>=◌}
use Rattle.acl_tree.specs.declared.command.NewUser.{NewUser}
use Rattle.acl_tree.specs.Useradd.{useradd}
use Rattle.acl_tree.specs.State.{State, with_change}
use Rattle.acl_tree.specs.declared.user_change.UserChange.TheVariants.{Added}
use Rattle.facl_script.specs.Forms.{Text}
use Rattle.facl_script.specs.Syntax.{Syntax, by_letter, one}
use Rattle.facl_script.specs.declared.tool_words.Words.{Words}
use Rattle.facl_output.specs.declared.fault.LineFault.{LineFault}
use Rattle.facl_tools.specs.Asked.{operand, value}
use Rattle.facl_tools.specs.Operands.{name_meant}
use Rattle.facl_tools.specs.Replies.{Reply, replied}
use Rattle.facl_tools.specs.declared.useradd.UseraddLine.{UseraddLine}

abbrev pub syntax : Syntax
syntax = record { flags = []; options = by_letter (codes "u") ∷ by_letter (codes "g") ∷ []; operands = one (codes "name") ∷ [] }

-- digits alone
abbrev pub uid_of : Words → Option ℕ
uid_of w = option_and_then id_of (value syntax w (codes "u") refl)

abbrev pub user_name : Text → Option Text
user_name name = if is_user_name name then Some name else None

-- the name of the new user: the operand is decoded, and not trimmed
abbrev pub decoded_name : Words → Option Text
decoded_name w = user_name (decoded (operand syntax w (codes "name") refl))

-- the line with this name
abbrev pub line_with : Words → Text → Option UseraddLine
line_with w name =
    option_and_then (λ uid. option_map (λ group. record { name = name; uid = uid; group = group }) (value syntax w (codes "g") refl)) (uid_of w)

-- the line that words give, unless they are usage
abbrev pub read : Words → Option UseraddLine
read w = option_and_then (line_with w) (decoded_name w)

abbrev pub new_user : UseraddLine → NewUser
new_user line = record { name = line.name; uid = line.uid; group = name_meant line.group }

-- the user is added
abbrev pub answered : State → UseraddLine → Result Reply LineFault
answered s line = replied Added (useradd (new_user line) s.people >>= with_change s)
