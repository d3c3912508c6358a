use Rattle.std.proofs.Common.{take, arith}
use Rattle.std.specs.List.{flat_map}
use Rattle.std.proofs.lemmas.Grind.{common_steps}
use Rattle.acl_names.proofs.Appended.{still_begins}
use Rattle.facl_answers.specs.PathTexts.{text_in}
use Rattle.facl_counts.specs.InnerGains.{lines_of_user}
use Rattle.facl_counts.proofs.gains.push_users.Goals as goal

pub returns-in_err-push_user : goal.returns-in_err-push_user
returns-in_err-push_user c =
    let shown = flat_map (lines_of_user (text_in c.args.trees.0.now c.args.trees.1.now)) (take c.loop-gains.gains-index c.args.users.now) in
    let begins = still_begins c.args.text.now.items shown c.loop-gains.text.items c.push_user.new.text.items c.loop-gains.invariant c.in_err-push_user.ensures in
    grind (arith, common_steps, begins)
