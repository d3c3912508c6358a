use Rattle.std.proofs.Common.{arith}
use Rattle.std.proofs.lemmas.Grind.{common_steps}
use Rattle.acl_text.proofs.Numbers.{no_id}
use Rattle.acl_text.proofs.fields.read_id.Goals as goal

pub returns-then-number-from : goal.returns-then-number-from
returns-then-number-from c = no_id c.args.word.now c.loop-b.number c.loop-b.b-index c.loop-b-test.true c.loop-b.invariant.value
    (omega (arith, c.if-number-from.true, c.from.ensures, c.from-in-loop-b.ensures))

pub returns-then-not-is_ascii_digit : goal.returns-then-not-is_ascii_digit
returns-then-not-is_ascii_digit c = grind (arith, common_steps)

pub loop-b-preserved : goal.loop-b-preserved
loop-b-preserved c = grind (arith, common_steps)

pub returns : goal.returns
returns c = grind (arith, common_steps)
