use Rattle.std.proofs.Common.{take, arith}
use Rattle.std.proofs.lemmas.Grind.{common_steps}
use Rattle.acl_names.proofs.Appended.{still_begins}
use Rattle.facl_output.specs.ChaclListings.{chacl_line, chacl_listing}
use Rattle.facl_output.proofs.Loops.{item_added, all_added}
use Rattle.facl_output.proofs.chacl_listing.push_lines.Goals as goal

pub returns-in_err-push_line : goal.returns-in_err-push_line
returns-in_err-push_line g c =
    let shown_text = chacl_listing (g.N.Names.naming c.args.names.now) (take c.loop-file.file-index c.args.files.now) in
    let begins = still_begins c.args.text.now.items shown_text c.loop-file.text.items c.push_line.new.text.items c.loop-file.invariant.text c.in_err-push_line.ensures.text in
    grind (arith, common_steps, begins)

pub loop-file-preserved : goal.loop-file-preserved
loop-file-preserved g c =
    let file = c.file-item.result in
    record {
      text = item_added (chacl_line (g.N.Names.naming c.args.names.now)) c.args.files.now c.args.text.now.items c.loop-file.file-index file file c.loop-file.text.items c.push_line.new.text.items
          c.loop-file-test.true c.file-item.is c.loop-file.invariant.text c.in_ok-push_line.ensures.text;
      kept = c.in_ok-push_line.ensures.kept;
    }

pub returns : goal.returns
returns g c =
    all_added (chacl_line (g.N.Names.naming c.args.names.now)) c.args.files.now c.args.text.now.items c.loop-file.file-index c.loop-file.text.items c.loop-file-test.false c.loop-file.invariant.text
