use Rattle.std.proofs.Common.{arith}
use Rattle.std.proofs.lemmas.Grind.{common_steps}
use Rattle.facl_tools.proofs.operands.paths_of.Goals as goal

pub returns-in_err-path_at : goal.returns-in_err-path_at
returns-in_err-path_at c = grind (arith, common_steps)

pub loop-rest-preserved : goal.loop-rest-preserved
loop-rest-preserved c = grind (arith, common_steps)

pub returns-in_err-push : goal.returns-in_err-push
returns-in_err-push c = grind (arith, common_steps)

pub returns : goal.returns
returns c = grind (arith, common_steps)
