use Rattle.std.proofs.Common.{take, arith}
use Rattle.std.specs.List.{flat_map}
use Rattle.std.proofs.lemmas.Grind.{common_steps}
use Rattle.acl_names.proofs.Appended.{still_begins}
use Rattle.facl_output.specs.TestListing.{default_entry}
use Rattle.facl_output.proofs.Loops.{item_added, all_added}
use Rattle.facl_output.proofs.test_listing.push_default_entries.Goals as goal

pub returns-in_err-push_default_entry : goal.returns-in_err-push_default_entry
returns-in_err-push_default_entry g c =
    let shown_text = flat_map (default_entry (g.N.Names.naming c.args.names.now)) (take c.loop-entry.entry-index c.args.entries.now) in
    let begins = still_begins c.args.text.now.items shown_text c.loop-entry.text.items c.push_default_entry.new.text.items c.loop-entry.invariant c.in_err-push_default_entry.ensures in
    grind (arith, common_steps, begins)

pub loop-entry-preserved : goal.loop-entry-preserved
loop-entry-preserved g c =
    let entry = c.entry-item.result in
    item_added (default_entry
    (g.N.Names.naming c.args.names.now)) c.args.entries.now c.args.text.now.items c.loop-entry.entry-index entry entry c.loop-entry.text.items c.push_default_entry.new.text.items
    c.loop-entry-test.true c.entry-item.is c.loop-entry.invariant c.in_ok-push_default_entry.ensures

pub returns : goal.returns
returns g c =
    all_added (default_entry
    (g.N.Names.naming c.args.names.now)) c.args.entries.now c.args.text.now.items c.loop-entry.entry-index c.loop-entry.text.items c.loop-entry-test.false c.loop-entry.invariant
