use Rattle.std.proofs.Common.{arith}
use Rattle.std.proofs.lemmas.Grind.{common_steps}
use Rattle.facl_tools.proofs.lists.entries_of.Goals as goal

pub returns-in_err-entries : goal.returns-in_err-entries
returns-in_err-entries c = grind (arith, common_steps)

pub loop-spec-preserved : goal.loop-spec-preserved
loop-spec-preserved c = grind (arith, common_steps)

pub returns-in_err-push : goal.returns-in_err-push
returns-in_err-push c = grind (arith, common_steps)

pub returns : goal.returns
returns c = grind (arith, common_steps)
