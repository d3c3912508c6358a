use Rattle.facl.proofs.ToolParts.{first_fault_refuses}
use Rattle.facl.proofs.tools.laws.tool_lines_are_refused_for_their_first_fault.Goals as goal

pub returns : goal.returns
returns c = first_fault_refuses
