use Rattle.std.proofs.Common.{arith}
use Rattle.std.proofs.lemmas.Grind.{common_steps}
use Rattle.facl_output.proofs.message.push_line_fault.Goals as goal

pub returns-in-NotUtf8 : goal.returns-in-NotUtf8
returns-in-NotUtf8 c = grind (arith, common_steps)

pub returns-in-OpenQuote : goal.returns-in-OpenQuote
returns-in-OpenQuote c = grind (arith, common_steps)

pub returns-in-Usage : goal.returns-in-Usage
returns-in-Usage c = grind (arith, common_steps)

pub returns-in-NoMemory : goal.returns-in-NoMemory
returns-in-NoMemory c = grind (arith, common_steps)
