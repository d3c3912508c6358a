use Rattle.std.proofs.Common.{arith, take}
use Rattle.std.proofs.lemmas.Grind.{common_steps}
use Rattle.acl_names.proofs.Appended.{still_begins}
use Rattle.facl_output.specs.AttrListings.{attr_listing, attr_text}
use Rattle.facl_output.proofs.Loops.{item_added, all_added}
use Rattle.facl_output.proofs.attr_listing.push_files.Goals as goal

pub returns-in_err-push_file : goal.returns-in_err-push_file
returns-in_err-push_file c =
    let shown = attr_listing (take c.loop-file.file-index c.args.files.now) in
    let begins = still_begins c.args.text.now.items shown c.loop-file.text.items c.push_file.new.text.items c.loop-file.invariant c.in_err-push_file.ensures in
    grind (arith, common_steps, begins)

pub loop-file-preserved : goal.loop-file-preserved
loop-file-preserved c =
    let file = c.file-item.result in
    item_added attr_text c.args.files.now c.args.text.now.items c.loop-file.file-index file file c.loop-file.text.items c.push_file.new.text.items c.loop-file-test.true c.file-item.is
    c.loop-file.invariant c.in_ok-push_file.ensures

pub returns : goal.returns
returns c = all_added attr_text c.args.files.now c.args.text.now.items c.loop-file.file-index c.loop-file.text.items c.loop-file-test.false c.loop-file.invariant
