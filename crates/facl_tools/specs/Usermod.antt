-- usermod(8): a user gets another primary group.
use Rattle.std.specs.Prelude.{[], ◌∷◌, codes, refl, Option, option_map, Result}
use Rattle.acl_tree.specs.Usermod.{usermod}
use Rattle.acl_tree.specs.State.{State, with_change}
use Rattle.acl_tree.specs.UserMoves.{change_moves}
use Rattle.facl_script.specs.Syntax.{Syntax, by_letter, one}
use Rattle.facl_script.specs.declared.tool_words.Words.{Words}
use Rattle.facl_output.specs.declared.fault.LineFault.{LineFault}
use Rattle.facl_tools.specs.Asked.{operand, value}
use Rattle.facl_tools.specs.Operands.{name_meant}
use Rattle.facl_tools.specs.Replies.{Reply, replied}
use Rattle.facl_tools.specs.declared.usermod.UsermodLine.{UsermodLine}
use Rattle.acl_text.specs.Results.{◌>>=◌}

abbrev pub syntax : Syntax
syntax = record { flags = []; options = by_letter (codes "g") ∷ []; operands = one (codes "user") ∷ [] }

-- the line that words give, unless they are usage
abbrev pub read : Words → Option UsermodLine
read w = option_map (λ group. record { user = operand syntax w (codes "user") refl; group = group }) (value syntax w (codes "g") refl)

-- the group becomes the primary group of the user
abbrev pub answered : State → UsermodLine → Result Reply LineFault
answered s line =
    let change = usermod (name_meant line.user) (name_meant line.group) s.people in
    replied (change_moves s.people change) (change >>= with_change s)
