use Rattle.std.proofs.Common.{◌≡◌, ◌++◌, ℕ, List, map, ap, subst, ◌∙◌}
use Rattle.acl_names.specs.Appends.{Appends}
use Rattle.facl_answers.specs.PathTexts.{text_in}
use Rattle.facl_counts.specs.Counting.{tallied}
use Rattle.facl_counts.specs.InnerGains.{count_line, tally_line}
use Rattle.facl_counts.proofs.GainLines.{line_of_first, line_of_none}
use Rattle.facl_counts.proofs.gains.push_change.Goals as goal

pub returns-in_default : goal.returns-in_default
returns-in_default c =
    let start = c.args.text.now.items in
    let text_of = text_in c.args.trees.0.now c.args.trees.1.now in
    let user = c.args.gains.now.user.name.items in
    subst (λ ts. start ≡ start ++ tally_line text_of user ts c.args.granted) c.as_slice-tallies.ensures
    (line_of_none text_of user (map tallied c.as_slice-tallies.result.now) c.args.granted c.in_default.ensures start)

pub returns : goal.returns
returns c =
    let text_of = text_in c.args.trees.0.now c.args.trees.1.now in
    let user = c.args.gains.now.user.name.items in
    let granted = c.args.granted in
    let count = c.in_ok-count.count in
    let is = line_of_first text_of user (map tallied c.as_slice-tallies.result.now) granted count c.in-Some.first.now c.in_ok-path.path.items
    c.in-Some.ensures c.in_ok-count.ensures c.in_ok-path.ensures in
    subst (λ (line : List ℕ). Appends c.push_line.result c.args.text.now c.push_line.new.text line)
    ((λ i. count_line granted count (c.deref.ensures.value i) (c.deref-2.ensures.value i)) ∙ is ∙ ap (λ ts. tally_line text_of user ts granted) c.as_slice-tallies.ensures)
    c.push_line.ensures
