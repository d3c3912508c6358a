use Rattle.std.proofs.Common.{arith}
use Rattle.facl_output.proofs.Parts.{begins_later, begins_more}
use Rattle.std.proofs.lemmas.Grind.{common_steps}
use Rattle.facl_answers.proofs.index.push_row.Goals as goal

pub returns-in_err-push_line : goal.returns-in_err-push_line
returns-in_err-push_line c =
    let begins = begins_later c.args.text.now.items c.loop-name.text.items c.push_line.new.text.items c.loop-name.invariant.begins c.in_err-push_line.ensures in
    grind (arith, common_steps, begins)

pub loop-name-preserved : goal.loop-name-preserved
loop-name-preserved c = record {
  lines = grind (arith, common_steps);
  begins = begins_more c.args.text.now.items c.loop-name.text.items _ c.push_line.new.text.items c.loop-name.invariant.begins c.in_ok-push_line.ensures;
}

pub returns-in_default : goal.returns-in_default
returns-in_default c = grind (arith, common_steps)

pub returns : goal.returns
returns c = grind (arith, common_steps)
