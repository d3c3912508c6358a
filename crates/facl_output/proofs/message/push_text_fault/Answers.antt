use Rattle.std.proofs.Common.{arith}
use Rattle.std.proofs.lemmas.Grind.{common_steps}
use Rattle.facl_output.proofs.message.push_text_fault.Goals as goal

pub returns : goal.returns
returns c = grind (arith, common_steps)
