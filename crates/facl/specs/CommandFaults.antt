-- Why what a line does is refused: for the first of the faults that apply to its command.
use Rattle.std.specs.Prelude.{◌≡◌, ◌↔◌, Result, Err}
use Rattle.acl_tree.specs.declared.command.Command.{Command}
use Rattle.acl_tree.specs.declared.fault.TreeFault.{TreeFault}
use Rattle.acl_tree.specs.Refusals.{IsFirst}
use Rattle.acl_tree.specs.State.{State}
use Rattle.facl_output.specs.Faults.{line_fault_of_tree}
use Rattle.facl_output.specs.declared.fault.LineFault.{LineFault}
use Rattle.facl_tools.specs.Replies.{Reply}

-- a line's fault is the first of those that apply to a command
pub record IsFirstOf (s : State) (c : Command) (fault : LineFault) : Type 0 where
  pub cause : TreeFault
  pub is : fault ≡ line_fault_of_tree cause
  pub first : IsFirst s c cause

-- a line is refused exactly if a fault applies to a command, and for the first of these
abbrev pub IsRefusedAs : State → Command → Result Reply LineFault → Type 0
IsRefusedAs s c reply = (fault : LineFault) → (reply ≡ Err fault) ↔ IsFirstOf s c fault
