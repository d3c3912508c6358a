use Rattle.std.proofs.Common.{arith}
use Rattle.std.proofs.lemmas.Grind.{common_steps}
use Rattle.facl_tools.proofs.getfacl.answer.Goals as goal

pub returns-in_err-paths : goal.returns-in_err-paths
returns-in_err-paths c = grind (arith, common_steps)

pub returns-in_err-files : goal.returns-in_err-files
returns-in_err-files c = grind (arith, common_steps)

pub returns-in_err-append_listing : goal.returns-in_err-append_listing
returns-in_err-append_listing c = grind (arith, common_steps)

pub returns : goal.returns
returns c = grind (arith, common_steps)
