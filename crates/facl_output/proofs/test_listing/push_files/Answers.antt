use Rattle.std.proofs.Common.{take, arith}
use Rattle.std.proofs.lemmas.Grind.{common_steps}
use Rattle.acl_names.proofs.Appended.{still_begins}
use Rattle.facl_output.specs.TestListing.{file_line, test_listing}
use Rattle.facl_output.proofs.Loops.{item_added, all_added}
use Rattle.facl_output.proofs.test_listing.push_files.Goals as goal

pub returns-in_err-push_file : goal.returns-in_err-push_file
returns-in_err-push_file g c =
    let shown_text = test_listing (g.N.Names.naming c.args.names.now) (take c.loop-file.file-index c.args.files.now) in
    let begins = still_begins c.args.text.now.items shown_text c.loop-file.text.items c.push_file.new.text.items c.loop-file.invariant.text c.in_err-push_file.ensures.text in
    grind (arith, common_steps, begins)

pub loop-file-preserved : goal.loop-file-preserved
loop-file-preserved g c =
    let file = c.file-item.result in
    record {
      text = item_added (file_line (g.N.Names.naming c.args.names.now)) c.args.files.now c.args.text.now.items c.loop-file.file-index file file c.loop-file.text.items c.push_file.new.text.items
          c.loop-file-test.true c.file-item.is c.loop-file.invariant.text c.in_ok-push_file.ensures.text;
      kept = c.in_ok-push_file.ensures.kept;
    }

pub returns : goal.returns
returns g c =
    all_added (file_line (g.N.Names.naming c.args.names.now)) c.args.files.now c.args.text.now.items c.loop-file.file-index c.loop-file.text.items c.loop-file-test.false c.loop-file.invariant.text
