use Rattle.std.proofs.Common.{arith}
use Rattle.std.proofs.lemmas.Grind.{common_steps}
use Rattle.facl_output.proofs.run_fault.push_run_fault.Goals as goal

pub returns-in-Read : goal.returns-in-Read
returns-in-Read c = grind (arith, common_steps)

pub returns-in-Write : goal.returns-in-Write
returns-in-Write c = grind (arith, common_steps)

pub returns-in-ScriptTooLong : goal.returns-in-ScriptTooLong
returns-in-ScriptTooLong c = grind (arith, common_steps)

pub returns-in-NoMemory : goal.returns-in-NoMemory
returns-in-NoMemory c = grind (arith, common_steps)
