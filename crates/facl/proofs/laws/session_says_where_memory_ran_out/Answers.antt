use Rattle.facl.proofs.MemorySaid.{no_memory_is_said}
use Rattle.facl.proofs.laws.session_says_where_memory_ran_out.Goals as goal

pub returns : goal.returns
returns c = no_memory_is_said
