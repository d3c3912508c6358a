-- userdel(8): a user is removed.
use Rattle.std.specs.Prelude.{[], ◌∷◌, codes, refl, Result}
use Rattle.acl_tree.specs.Userdel.{userdel}
use Rattle.acl_tree.specs.State.{State, with_change}
use Rattle.acl_tree.specs.UserMoves.{user_left}
use Rattle.facl_script.specs.Syntax.{Syntax, one}
use Rattle.facl_script.specs.declared.tool_words.Words.{Words}
use Rattle.facl_output.specs.declared.fault.LineFault.{LineFault}
use Rattle.facl_tools.specs.Asked.{operand}
use Rattle.facl_tools.specs.Operands.{name_meant}
use Rattle.facl_tools.specs.Replies.{Reply, replied}
use Rattle.facl_tools.specs.declared.userdel.UserdelLine.{UserdelLine}
use Rattle.acl_text.specs.Results.{◌>>=◌}

abbrev pub syntax : Syntax
syntax = record { flags = []; options = []; operands = one (codes "user") ∷ [] }

-- the line that words give
abbrev pub read : Words → UserdelLine
read w = record { user = operand syntax w (codes "user") refl }

-- the user is removed
abbrev pub answered : State → UserdelLine → Result Reply LineFault
answered s line =
    let change = userdel (name_meant line.user) s.people in
    replied (user_left change) (change >>= with_change s)
