use Rattle.std.proofs.Common.{arith}
use Rattle.std.proofs.lemmas.Grind.{common_steps}
use Rattle.facl_output.proofs.message.push_kind.Goals as goal

pub returns-in-BadTag : goal.returns-in-BadTag
returns-in-BadTag c = grind (arith, common_steps)

pub returns-in-BadHeader : goal.returns-in-BadHeader
returns-in-BadHeader c = grind (arith, common_steps)

pub returns-in-BadPath : goal.returns-in-BadPath
returns-in-BadPath c = grind (arith, common_steps)

pub returns-in-BadRow : goal.returns-in-BadRow
returns-in-BadRow c = grind (arith, common_steps)

pub returns-in-TooMany : goal.returns-in-TooMany
returns-in-TooMany c = grind (arith, common_steps)

pub returns-in-NoMemory : goal.returns-in-NoMemory
returns-in-NoMemory c = grind (arith, common_steps)
