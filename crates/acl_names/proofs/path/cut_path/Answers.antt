use Rattle.std.proofs.Common.{arith}
use Rattle.std.proofs.lemmas.Grind.{common_steps}
use Rattle.acl_names.proofs.path.cut_path.Goals as goal

pub loop-rest-preserved-in_ok-pack : goal.loop-rest-preserved-in_ok-pack
loop-rest-preserved-in_ok-pack c = grind (arith, common_steps)

pub returns : goal.returns
returns c = grind (arith, common_steps)
