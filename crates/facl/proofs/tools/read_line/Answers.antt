use Rattle.std.proofs.Common.{arith}
use Rattle.std.proofs.lemmas.Grind.{common_steps}
use Rattle.facl.proofs.tools.read_line.Goals as goal

pub returns-in_err-read-in-Useradd : goal.returns-in_err-read-in-Useradd
returns-in_err-read-in-Useradd c = grind (arith, common_steps)

pub returns-in_ok-read-in-Useradd : goal.returns-in_ok-read-in-Useradd
returns-in_ok-read-in-Useradd c = grind (arith, common_steps)
