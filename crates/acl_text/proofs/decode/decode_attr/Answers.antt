use Rattle.std.proofs.Common.{arith}
use Rattle.std.proofs.lemmas.Grind.{common_steps}
use Rattle.acl_text.proofs.decode.decode_attr.Goals as goal

pub returns : goal.returns
returns c = grind (arith, common_steps)
