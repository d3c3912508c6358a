use Rattle.std.proofs.Common.{arith, take}
use Rattle.acl_names.proofs.Appended.{still_begins}
use Rattle.std.proofs.lemmas.Grind.{common_steps}
use Rattle.facl_answers.specs.WhyText.{why_record, why_text}
use Rattle.facl_output.proofs.Loops.{item_added, all_added}
use Rattle.facl_answers.proofs.why.push_records.Goals as goal

pub returns-in_err-push_record : goal.returns-in_err-push_record
returns-in_err-push_record g c =
    let shown = why_text (g.N.Names.naming c.args.names.now) g.J.Judge.decider_of c.args.subject.now (take c.loop-file.file-index c.args.files.now) in
    let begins = still_begins c.args.text.now.items shown c.loop-file.text.items c.push_record.new.text.items c.loop-file.invariant c.in_err-push_record.ensures in
    grind (arith, common_steps, begins)

pub loop-file-preserved : goal.loop-file-preserved
loop-file-preserved g c =
    let file = c.file-item.result in
    item_added (why_record (g.N.Names.naming c.args.names.now) g.J.Judge.decider_of c.args.subject.now) c.args.files.now c.args.text.now.items c.loop-file.file-index file file c.loop-file.text.items
    c.push_record.new.text.items c.loop-file-test.true c.file-item.is c.loop-file.invariant c.in_ok-push_record.ensures

pub returns : goal.returns
returns g c =
    all_added (why_record (g.N.Names.naming c.args.names.now) g.J.Judge.decider_of c.args.subject.now)
    c.args.files.now c.args.text.now.items c.loop-file.file-index c.loop-file.text.items c.loop-file-test.false
    c.loop-file.invariant
