use Rattle.std.proofs.Common.{ℕ, List, ap, subst, ◌∙◌}
use Rattle.acl_names.specs.Appends.{Appends}
use Rattle.acl_tree.specs.State.{State}
use Rattle.facl_answers.specs.Inner.{lines_of_files}
use Rattle.facl_answers.specs.PathTexts.{text_in}
use Rattle.facl_answers.proofs.changes.push_within.Goals as goal

pub returns : goal.returns
returns g c =
    let was = c.tree.ensures ∙ ap (λ (known : State). known.tree) c.state.ensures in
    let is = c.tree-2.ensures ∙ ap (λ (known : State). known.tree) c.state-2.ensures in
    subst (λ (lines : List ℕ). Appends c.push_both.result c.args.text.now c.push_both.new.text lines)
    (λ i. lines_of_files c.args.users.now (text_in (was i) (is i)) (c.of_states-both.ensures.files i)) c.push_both.ensures
