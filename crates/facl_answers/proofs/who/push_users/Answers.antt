use Rattle.std.proofs.Common.{get_or, refl, arith, take}
use Rattle.std.specs.List.{flat_map}
use Rattle.acl_names.proofs.Appended.{still_begins}
use Rattle.std.proofs.lemmas.Grind.{common_steps}
use Rattle.facl_answers.specs.Inner.{line_at}
use Rattle.facl_output.proofs.Loops.{item_added, all_added}
use Rattle.facl_answers.proofs.who.push_users.Goals as goal

pub returns-in_err-push_user : goal.returns-in_err-push_user
returns-in_err-push_user c =
    let shown = flat_map (line_at c.args.people.now) (take c.loop-user.user-index c.args.users.now) in
    let begins = still_begins c.args.text.now.items shown c.loop-user.text.items c.push_user.new.text.items c.loop-user.invariant c.in_err-push_user.ensures in
    grind (arith, common_steps, begins)

pub loop-user-preserved : goal.loop-user-preserved
loop-user-preserved c =
    let i = c.loop-user.user-index in
    item_added (line_at c.args.people.now) c.args.users.now c.args.text.now.items i (get_or c.args.users.now i 0) 0 c.loop-user.text.items c.push_user.new.text.items c.loop-user-test.true refl
    c.loop-user.invariant c.in_ok-push_user.ensures

pub returns : goal.returns
returns c = all_added (line_at c.args.people.now) c.args.users.now c.args.text.now.items c.loop-user.user-index c.loop-user.text.items c.loop-user-test.false c.loop-user.invariant
