use Rattle.std.proofs.Common.{arith}
use Rattle.std.proofs.lemmas.Grind.{common_steps}
use Rattle.facl_output.proofs.message.push_tree_fault.Goals as goal

pub returns-in-NotMember : goal.returns-in-NotMember
returns-in-NotMember c = grind (arith, common_steps)

pub returns-in-TooMany : goal.returns-in-TooMany
returns-in-TooMany c = grind (arith, common_steps)

pub returns-in-AlreadyLoaded : goal.returns-in-AlreadyLoaded
returns-in-AlreadyLoaded c = grind (arith, common_steps)

pub returns-in-TooManyUsers : goal.returns-in-TooManyUsers
returns-in-TooManyUsers c = grind (arith, common_steps)

pub returns-in-NoMemory : goal.returns-in-NoMemory
returns-in-NoMemory c = grind (arith, common_steps)
