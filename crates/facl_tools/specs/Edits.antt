-- Edits of the files that a line names.
use Rattle.std.specs.Prelude.{List, Bool, Result}
use Rattle.acl_edit.specs.declared.edit.Edit.{Edit}
use Rattle.acl_tree.specs.EditCommand.{edited_tree}
use Rattle.acl_tree.specs.State.{State, with_tree}
use Rattle.acl_tree.specs.declared.user_change.UserChange.TheVariants.{Unchanged}
use Rattle.facl_script.specs.Forms.{Text}
use Rattle.facl_output.specs.declared.fault.LineFault.{LineFault}
use Rattle.facl_tools.specs.Replies.{Reply, replied}
use Rattle.facl_tools.specs.Operands.{paths_from}
use Rattle.acl_text.specs.Results.{◌>>=◌}

-- the files that words name are edited, in a recursion also all below them
abbrev pub edited : State → Bool → Edit → List Text → Result Reply LineFault
edited s recursive edit files = paths_from 1 files >>= λ paths. replied Unchanged (edited_tree recursive paths edit s.tree >>= with_tree s)
