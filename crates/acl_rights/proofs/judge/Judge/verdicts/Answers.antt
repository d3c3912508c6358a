use Rattle.std.proofs.Common.{arith}
use Rattle.std.proofs.lemmas.Grind.{common_steps}
use Rattle.acl_rights.proofs.judge.Judge.verdicts.Goals as goal

pub verdict-requires : goal.verdict-requires
verdict-requires g c = grind (arith, common_steps)

pub bounds-row-at : goal.bounds-row-at
bounds-row-at g c = grind (arith, common_steps)

pub loop-at-preserved : goal.loop-at-preserved
loop-at-preserved g c = grind (arith, common_steps)

pub loop-preserved : goal.loop-preserved
loop-preserved g c = grind (arith, common_steps)
