use Rattle.facl.proofs.MemoryOfLines.{no_memory_is_no_fault}
use Rattle.facl.proofs.laws.no_memory_is_no_fault_of_a_line.Goals as goal

pub returns : goal.returns
returns c = no_memory_is_no_fault
