-- index: what each user may do with each file. The state stays as it is.
use Rattle.std.specs.Prelude.{[], Result, Ok}
use Rattle.facl_answers.specs.Answers.{index_text}
use Rattle.acl_tree.specs.State.{State}
use Rattle.acl_rights.specs.Rows.{Verdict}
use Rattle.facl_script.specs.Syntax.{Syntax}
use Rattle.facl_output.specs.declared.fault.LineFault.{LineFault}
use Rattle.facl_tools.specs.Replies.{Reply, printed}

-- it takes no words
abbrev pub syntax : Syntax
syntax = record { flags = []; options = []; operands = [] }

-- the whole table is printed
abbrev pub answered : Verdict → State → Result Reply LineFault
answered verdict s = Ok (printed s (index_text verdict s))
