use Rattle.std.proofs.Common.{◌≡◌, ◌++◌, ℕ, List, false, ap, ◌∙◌, subst, arith, rules}
use Rattle.std.specs.List.{list_any}
use Rattle.acl_names.proofs.Appended.{still_begins}
use Rattle.std.proofs.lemmas.Grind.{common_steps}
use Rattle.facl_counts.specs.GainsText.{side_of, lines_up_to}
use Rattle.facl_counts.specs.InnerGains.{is_before, lines_after, tally_line}
use Rattle.facl_answers.specs.PathTexts.{text_in}
use Rattle.facl_counts.proofs.GainLines.{none_before, wrote_none, wrote_more}
use Rattle.facl_counts.proofs.gains.push_after.Goals as goal

pub returns-then-not-has_before : goal.returns-then-not-has_before
returns-then-not-has_before c =
    let start = c.args.text.now.items in
    let text_of = text_in c.args.trees.0.now c.args.trees.1.now in
    let user = c.args.gains.now.user.name.items in
    let tallies = c.as_slice.result.now in
    let none : list_any (is_before c.args.before) tallies ≡ false = search rules in
    subst (λ ts. start ≡ start ++ lines_after text_of user ts c.args.before) c.as_slice.ensures (none_before text_of user tallies c.args.before none start)

pub loop-after-init : goal.loop-after-init
loop-after-init c =
    wrote_none (λ after. tally_line (text_in c.args.trees.0.now c.args.trees.1.now) c.args.gains.now.user.name.items c.args.gains.now.tallies (c.args.before, side_of after)) c.args.text.now.items

pub returns-in_err-push_change : goal.returns-in_err-push_change
returns-in_err-push_change c =
    let line_of : ℕ → List ℕ = λ after. tally_line (text_in c.args.trees.0.now c.args.trees.1.now) c.args.gains.now.user.name.items c.args.gains.now.tallies (c.args.before, side_of after) in
    let begins = still_begins c.args.text.now.items (lines_up_to line_of c.loop-after.after) c.loop-after.text.items c.push_change.new.text.items c.loop-after.invariant c.in_err-push_change.ensures in
    grind (arith, common_steps, begins)

pub loop-after-preserved : goal.loop-after-preserved
loop-after-preserved c =
    let line_at = tally_line (text_in c.args.trees.0.now c.args.trees.1.now) c.args.gains.now.user.name.items c.args.gains.now.tallies in
    let text = c.loop-after.text.items in
    wrote_more (λ after. line_at (c.args.before, side_of after)) c.loop-after.after c.args.text.now.items text c.push_change.new.text.items c.loop-after.invariant
    (c.in_ok-push_change.ensures ∙ ap (λ side. text ++ line_at (c.args.before, side)) c.side_of.ensures)
