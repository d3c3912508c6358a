use Rattle.std.proofs.Common.{◌≡◌, ◌++◌, ap, ◌∙◌, append_assoc, arith}
use Rattle.std.proofs.lemmas.Grind.{common_steps}
use Rattle.acl_names.proofs.Appended.{still_begins}
use Rattle.acl_text.proofs.Appending.{appends_both}
use Rattle.facl_answers.specs.Answers.{line}
use Rattle.facl_counts.specs.CountTexts.{count_text, spaced}
use Rattle.facl_counts.specs.GainsText.{side_text}
use Rattle.facl_counts.proofs.gains.push_line.Goals as goal

pub returns-in_err-push_spaced_side-2 : goal.returns-in_err-push_spaced_side-2
returns-in_err-push_spaced_side-2 c =
    let begins = still_begins c.args.text.now.items (spaced (side_text c.args.granted.0)) c.push_spaced_side.new.text.items c.push_spaced_side-2.new.text.items
    c.in_ok-push_spaced_side.ensures c.in_err-push_spaced_side-2.ensures in
    grind (arith, common_steps, begins)

pub returns-in_err-push_count : goal.returns-in_err-push_count
returns-in_err-push_count c =
    let old = c.args.text.now.items in
    let before = spaced (side_text c.args.granted.0) in
    let after = spaced (side_text c.args.granted.1) in
    let sides : c.push_spaced_side-2.new.text.items ≡ old ++ (before ++ after) =
    c.in_ok-push_spaced_side-2.ensures ∙ ap (λ l. l ++ after) c.in_ok-push_spaced_side.ensures ∙ append_assoc old before after
    in
    let begins = still_begins old (before ++ after) c.push_spaced_side-2.new.text.items c.push_count.new.text.items sides c.in_err-push_count.ensures in
    grind (arith, common_steps, begins)

pub returns : goal.returns
returns c =
    let old = c.args.text.now.items in
    let before = spaced (side_text c.args.granted.0) in
    let after = spaced (side_text c.args.granted.1) in
    let counted = count_text c.args.count c.args.user.now in
    let path = line c.args.path.now in
    let sides : c.push_spaced_side-2.new.text.items ≡ old ++ (before ++ after) =
    c.in_ok-push_spaced_side-2.ensures ∙ ap (λ l. l ++ after) c.in_ok-push_spaced_side.ensures ∙ append_assoc old before after
    in
    appends_both c.push_path.result c.args.text.now c.push_spaced_side-2.new.text c.push_path.new.text (before ++ after) (counted ++ path) sides
    (appends_both c.push_path.result c.push_spaced_side-2.new.text c.push_count.new.text c.push_path.new.text counted path c.in_ok-push_count.ensures c.push_path.ensures)
