use Rattle.std.proofs.Common.{arith}
use Rattle.std.proofs.lemmas.Grind.{common_steps}
use Rattle.facl.proofs.tools.below.answer_counts.Goals as goal

pub returns-in_err-paths : goal.returns-in_err-paths
returns-in_err-paths c = grind (arith, common_steps)

pub returns-in_err-out : goal.returns-in_err-out
returns-in_err-out c = grind (arith, common_steps)

pub returns : goal.returns
returns c = grind (arith, common_steps)
