-- may: the files with which a user may do something. The state stays as it is.
use Rattle.std.specs.Prelude.{[], ◌∷◌, Bool, codes, refl, Option, option_and_then, Result, ok_or, option_map, Ok}
use Rattle.facl_tools.specs.Asked.{has, operand}
use Rattle.facl_answers.specs.Answers.{may_text}
use Rattle.acl_entry.specs.Perms.{Perms}
use Rattle.acl_tree.specs.declared.fault.TreeFault.TheVariants.{NoSuchUser}
use Rattle.acl_people.specs.KnownPeople.{users_of}
use Rattle.acl_people.specs.NameTables.{place_of_word}
use Rattle.acl_tree.specs.State.{State}
use Rattle.acl_rights.specs.Rows.{Verdict}
use Rattle.facl_script.specs.Forms.{Text}
use Rattle.facl_script.specs.Syntax.{Syntax, by_name, one}
use Rattle.facl_script.specs.declared.tool_words.Words.{Words}
use Rattle.facl_output.specs.declared.fault.LineFault.{LineFault}
use Rattle.facl_output.specs.declared.fault.LineFault.TheVariants.{Tree}
use Rattle.facl_tools.specs.Operands.{name_meant}
use Rattle.facl_tools.specs.Readers.{permissions_of}
use Rattle.facl_tools.specs.Replies.{Reply, printed}
use Rattle.facl.specs.declared.tools.may.MayLine.{MayLine}
use Rattle.acl_text.specs.Results.{◌>>=◌}

abbrev pub syntax : Syntax
syntax = record { flags = by_name (codes "reach") ∷ []; options = []; operands = one (codes "user") ∷ one (codes "perms") ∷ [] }

-- the line that words give, unless they are usage
abbrev pub read : Words → Option MayLine
read w =
    option_map (λ request. record { reach = has syntax w (codes "reach") refl; user = operand syntax w (codes "user") refl; request = request })
    (permissions_of (operand syntax w (codes "perms") refl))

-- the files on which a request is granted to the user of a name, if there is one
abbrev pub may_text_of : Verdict → Bool → State → Perms → Text → Option Text
may_text_of verdict along s request name = option_and_then (may_text verdict along s request) (place_of_word name (users_of s.people))

-- the files on which a request is granted to the user that a word means
abbrev pub may_of : Verdict → Bool → State → Text → Perms → Result Text LineFault
may_of verdict along s word request = ok_or (may_text_of verdict along s request (name_meant word)) (Tree (NoSuchUser (name_meant word)))

-- these files are printed
abbrev pub answered : Verdict → State → MayLine → Result Reply LineFault
answered verdict s line = may_of verdict line.reach s line.user line.request >>= λ out. Ok (printed s out)
