use Rattle.std.proofs.Common.{◌++◌, ℕ, List, ap, ◌∙◌, arith}
use Rattle.acl_names.proofs.Appended.{still_begins}
use Rattle.std.proofs.lemmas.Grind.{common_steps}
use Rattle.facl_counts.specs.GainsText.{side_of, lines_up_to}
use Rattle.facl_counts.specs.InnerGains.{lines_after}
use Rattle.facl_answers.specs.PathTexts.{text_in}
use Rattle.facl_counts.proofs.GainLines.{wrote_none, wrote_more}
use Rattle.facl_counts.proofs.gains.push_user.Goals as goal

pub loop-before-init : goal.loop-before-init
loop-before-init c =
    wrote_none (λ after. lines_after (text_in c.args.trees.0.now c.args.trees.1.now) c.args.gains.now.user.name.items c.args.gains.now.tallies (side_of after)) c.args.text.now.items

pub returns-in_err-push_after : goal.returns-in_err-push_after
returns-in_err-push_after c =
    let line_of : ℕ → List ℕ = λ after. lines_after (text_in c.args.trees.0.now c.args.trees.1.now) c.args.gains.now.user.name.items c.args.gains.now.tallies (side_of after) in
    let begins = still_begins c.args.text.now.items
    (lines_up_to line_of c.loop-before.before) c.loop-before.text.items c.push_after.new.text.items c.loop-before.invariant c.in_err-push_after.ensures in
    grind (arith, common_steps, begins)

pub loop-before-preserved : goal.loop-before-preserved
loop-before-preserved c =
    let line_of : ℕ → List ℕ = λ after. lines_after (text_in c.args.trees.0.now c.args.trees.1.now) c.args.gains.now.user.name.items c.args.gains.now.tallies (side_of after) in
    let text = c.loop-before.text.items in
    wrote_more line_of c.loop-before.before c.args.text.now.items text c.push_after.new.text.items c.loop-before.invariant
    (c.in_ok-push_after.ensures ∙ ap (λ side. text ++ lines_after (text_in c.args.trees.0.now c.args.trees.1.now) c.args.gains.now.user.name.items c.args.gains.now.tallies side) c.side_of.ensures)
