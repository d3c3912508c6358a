use Rattle.std.proofs.Common.{arith, rules}
use Rattle.std.proofs.lemmas.Grind.{common_steps}
use Rattle.acl_tree.proofs.restore.files_of.Goals as goal

pub loop-rest-preserved : goal.loop-rest-preserved
loop-rest-preserved c = grind (arith, common_steps)

pub returns-clause-found : goal.returns-clause-found
returns-clause-found c = record {
  records = grind (arith, common_steps);
  files = search rules;
}

pub returns-clause-there : goal.returns-clause-there
returns-clause-there c = grind (arith, common_steps)
