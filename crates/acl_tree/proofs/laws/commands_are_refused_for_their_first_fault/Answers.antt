use Rattle.acl_tree.proofs.FirstFaults.{first_fault_refuses}
use Rattle.acl_tree.proofs.laws.commands_are_refused_for_their_first_fault.Goals as goal

pub returns : goal.returns
returns c = first_fault_refuses
