use Rattle.std.proofs.Common.{arith}
use Rattle.std.proofs.lemmas.Grind.{common_steps}
use Rattle.acl_names.proofs.Appended.{still_begins}
use Rattle.acl_text.proofs.Appending.{both_added}
use Rattle.acl_text.proofs.header.push_header.Goals as goal

pub returns-in_err-push_group : goal.returns-in_err-push_group
returns-in_err-push_group g c =
    let begins = still_begins c.args.text.now.items _ c.push_owner.new.text.items c.push_group.new.text.items
    (both_added c.args.text.now.items _ _ c.push_file.new.text.items c.push_owner.new.text.items c.in_ok-push_file.ensures c.in_ok-push_owner.ensures) c.in_err-push_group.ensures in
    grind (arith, common_steps, begins)

pub returns-in_err-push_flags : goal.returns-in_err-push_flags
returns-in_err-push_flags g c =
    let begins = still_begins c.args.text.now.items _ c.push_group.new.text.items c.push_flags.new.text.items
    (both_added c.args.text.now.items _ _ c.push_owner.new.text.items c.push_group.new.text.items
    (both_added c.args.text.now.items _ _ c.push_file.new.text.items c.push_owner.new.text.items c.in_ok-push_file.ensures c.in_ok-push_owner.ensures) c.in_ok-push_group.ensures)
    c.in_err-push_flags.ensures in
    grind (arith, common_steps, begins)
