-- load: a text is read as users, groups or files.
use Rattle.std.specs.Prelude.{ℕ, List, [], ◌∷◌, codes, refl, if◌then◌else◌, Option, None, Some, option_map, Result}
use Rattle.std.specs.Str.{bytes_eq}
use Rattle.acl_tree.specs.declared.command.Table.{Table}
use Rattle.acl_tree.specs.declared.command.Table.TheVariants.{Passwd, Group, Dump}
use Rattle.acl_tree.specs.Loads.{load_moves, load}
use Rattle.acl_tree.specs.State.{State}
use Rattle.facl_script.specs.Forms.{Text}
use Rattle.facl_script.specs.Syntax.{Syntax, one}
use Rattle.facl_script.specs.declared.tool_words.Words.{Words}
use Rattle.facl_output.specs.declared.fault.LineFault.{LineFault}
use Rattle.facl_tools.specs.Asked.{operand}
use Rattle.facl_tools.specs.Replies.{Reply, replied}
use Rattle.facl_tools.specs.declared.load.LoadLine.{LoadLine}

abbrev pub syntax : Syntax
syntax = record { flags = []; options = []; operands = one (codes "table") ∷ [] }

-- the three texts that are loaded
abbrev pub table_named : Text → Option Table
table_named name =
    if bytes_eq name (codes "passwd") then Some Passwd
    else if bytes_eq name (codes "group") then Some Group
    else if bytes_eq name (codes "dump") then Some Dump
    else None

-- the line that words give, unless they are usage
abbrev pub read : Words → Option LoadLine
read w = option_map (λ table. record { table = table }) (table_named (operand syntax w (codes "table") refl))

-- the text is read
abbrev pub answered : State → LoadLine → List ℕ → Result Reply LineFault
answered s line text = replied (load_moves line.table) (load s line.table text)
