-- gpasswd(1): a user is added to a group, or removed from it.
use Rattle.std.specs.Prelude.{[], ◌∷◌, codes, refl, Option, None, Some, Result}
use Rattle.acl_tree.specs.declared.command.Membership.TheVariants.{Add, Remove}
use Rattle.acl_tree.specs.Gpasswd.{gpasswd}
use Rattle.acl_tree.specs.State.{State, with_change}
use Rattle.acl_tree.specs.UserMoves.{change_moves}
use Rattle.facl_script.specs.Forms.{Text}
use Rattle.facl_script.specs.Syntax.{Syntax, by_letter, one}
use Rattle.facl_script.specs.declared.tool_words.Words.{Words}
use Rattle.facl_output.specs.declared.fault.LineFault.{LineFault}
use Rattle.facl_tools.specs.Asked.{operand, value}
use Rattle.facl_tools.specs.Operands.{name_meant}
use Rattle.facl_tools.specs.Replies.{Reply, replied}
use Rattle.facl_tools.specs.declared.gpasswd.GpasswdLine.{GpasswdLine}
use Rattle.acl_text.specs.Results.{◌>>=◌}

abbrev pub syntax : Syntax
syntax = record { flags = []; options = by_letter (codes "a") ∷ by_letter (codes "d") ∷ []; operands = one (codes "group") ∷ [] }

-- the line of a user who is added, or of one who is removed: exactly one of the two is given
abbrev pub line_of : Option Text → Option Text → Text → Option GpasswdLine
line_of (Some user) None group = Some (record { change = Add; user = user; group = group })
line_of None (Some user) group = Some (record { change = Remove; user = user; group = group })
line_of (Some user) (Some other) group = None
line_of None None group = None

-- the line that words give, unless they are usage
abbrev pub read : Words → Option GpasswdLine
read w = line_of (value syntax w (codes "a") refl) (value syntax w (codes "d") refl) (operand syntax w (codes "group") refl)

-- the user is added to the group, or removed from it
abbrev pub answered : State → GpasswdLine → Result Reply LineFault
answered s line =
    let change = gpasswd (name_meant line.user) (name_meant line.group) line.change s.people in
    replied (change_moves s.people change) (change >>= with_change s)
