use Rattle.std.proofs.Common.{arith}
use Rattle.std.proofs.lemmas.Grind.{common_steps}
use Rattle.path_map.proofs.run.RunIterator.next.Goals as goal

pub returns-in_default-clause-steps : goal.returns-in_default-clause-steps
returns-in_default-clause-steps g c = grind (arith, common_steps)

pub returns-in_default-clause-goes : goal.returns-in_default-clause-goes
returns-in_default-clause-goes g c = grind (arith, common_steps)

pub returns-in_default-values-clause-steps : goal.returns-in_default-values-clause-steps
returns-in_default-values-clause-steps g c = grind (arith, common_steps)

pub returns-in_default-values-clause-goes : goal.returns-in_default-values-clause-goes
returns-in_default-values-clause-goes g c = grind (arith, common_steps)

pub returns-clause-steps : goal.returns-clause-steps
returns-clause-steps g c = grind (arith, common_steps)

pub returns-clause-goes : goal.returns-clause-goes
returns-clause-goes g c = grind (arith, common_steps)
