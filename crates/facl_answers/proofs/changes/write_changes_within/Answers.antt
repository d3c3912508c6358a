use Rattle.std.proofs.Common.{ap, subst, ◌∙◌}
use Rattle.path_map.specs.Entries.{IsInOrder}
use Rattle.acl_tree.specs.Files.{Recorded}
use Rattle.acl_tree.specs.State.{State}
use Rattle.facl_answers.proofs.ChangeLines.{all_lines}
use Rattle.facl_answers.proofs.changes.write_changes_within.Goals as goal

pub push_part-requires-clause-before : goal.push_part-requires-clause-before
push_part-requires-clause-before g c = subst (λ (t : Recorded). IsInOrder t.files) (c.tree.ensures ∙ ap (λ (known : State). known.tree) c.state.ensures) c.soundness_law.ensures.order

pub push_part-requires-clause-after : goal.push_part-requires-clause-after
push_part-requires-clause-after g c = subst (λ (t : Recorded). IsInOrder t.files) (c.tree-2.ensures ∙ ap (λ (known : State). known.tree) c.state-2.ensures) c.soundness_law-2.ensures.order

pub returns : goal.returns
returns g c =
    let V = g.J.Judge.verdict_of in
    let asked = c.args.verdicts.now in
    let people_of = λ (known : State). known.people in
    let before = subst (λ (t : Recorded). IsInOrder t.files) (c.tree.ensures ∙ ap (λ (known : State). known.tree) c.state.ensures) c.soundness_law.ensures.order in
    let after = subst (λ (t : Recorded). IsInOrder t.files) (c.tree-2.ensures ∙ ap (λ (known : State). known.tree) c.state-2.ensures) c.soundness_law-2.ensures.order in
    all_lines V asked.along c.args.loaded.now asked.state.now before after c.people.result.now c.people-people.result.now (c.people.ensures ∙ ap people_of c.state-4.ensures)
    (c.people-people.ensures ∙ ap people_of c.state-3.ensures) c.in_ok-users.users.items c.deref.result.now c.deref.ensures.value c.in_ok-users.ensures
    c.new-text.result.items c.push_part.new.text.items c.new-text.ensures.items c.in_ok-push_part.ensures
