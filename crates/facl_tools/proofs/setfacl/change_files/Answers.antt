use Rattle.std.proofs.Common.{arith}
use Rattle.std.proofs.lemmas.Grind.{common_steps}
use Rattle.facl_tools.proofs.setfacl.change_files.Goals as goal

pub returns-in_err-paths : goal.returns-in_err-paths
returns-in_err-paths c = grind (arith, common_steps)

pub returns-in_err-effect : goal.returns-in_err-effect
returns-in_err-effect c = grind (arith, common_steps)

pub returns : goal.returns
returns c = grind (arith, common_steps)
