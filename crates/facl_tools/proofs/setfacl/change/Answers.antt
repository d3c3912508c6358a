use Rattle.std.proofs.Common.{arith}
use Rattle.std.proofs.lemmas.Grind.{common_steps}
use Rattle.facl_tools.proofs.setfacl.change.Goals as goal

pub returns-in_err-entries : goal.returns-in_err-entries
returns-in_err-entries c = grind (arith, common_steps)

pub returns-in_err-at : goal.returns-in_err-at
returns-in_err-at c = grind (arith, common_steps)

pub returns-in-Some : goal.returns-in-Some
returns-in-Some c = grind (arith, common_steps)
