-- Every command is refused for the first fault that applies.
use Rattle.path_map.specs.Entries.{IsInOrder}
use Rattle.acl_tree.specs.declared.command.Command.{Command}
use Rattle.acl_tree.specs.declared.command.Command.TheVariants.{Load, Chmod, Edit, Restore, Creat, Rm, Gpasswd, Usermod, Useradd, Userdel}
use Rattle.acl_tree.specs.State.{State}
use Rattle.acl_tree.specs.Refusals.{IsRefusedForFirst}
use Rattle.acl_tree.proofs.RefusedEdits.{edit_refused, restore_refused}
use Rattle.acl_tree.proofs.RefusedFiles.{creat_refused}
use Rattle.acl_tree.proofs.RefusedLoads.{load_refused}
use Rattle.acl_tree.proofs.RefusedOperands.{chmod_refused}
use Rattle.acl_tree.proofs.RefusedPeople.{gpasswd_refused, usermod_refused, useradd_refused, userdel_refused}
use Rattle.acl_tree.proofs.RefusedRemovals.{rm_refused}

pub first_fault_refuses : (s : State) (command : Command) → IsInOrder s.tree.files → IsRefusedForFirst s command
first_fault_refuses s (Load which bytes) order = load_refused s which bytes
first_fault_refuses s (Chmod paths mode recursive) order = chmod_refused s paths mode recursive
first_fault_refuses s (Edit paths e recursive) order = edit_refused s paths e recursive order
first_fault_refuses s (Restore records) order = restore_refused s records order
first_fault_refuses s (Creat new) order = creat_refused s order new
first_fault_refuses s (Rm paths recursive) order = rm_refused s recursive paths
first_fault_refuses s (Gpasswd user group change) order = gpasswd_refused s user group change
first_fault_refuses s (Usermod user group) order = usermod_refused s user group
first_fault_refuses s (Useradd new) order = useradd_refused s new
first_fault_refuses s (Userdel user) order = userdel_refused s user
