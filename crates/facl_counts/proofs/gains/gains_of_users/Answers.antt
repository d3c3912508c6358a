use Rattle.std.proofs.Common.{◌≡◌, map, length, ap, subst, ◌∙◌, arith}
use Rattle.std.specs.List.{flat_map}
use Rattle.path_map.specs.Entries.{IsInOrder}
use Rattle.acl_tree.specs.Files.{Recorded}
use Rattle.acl_tree.specs.State.{State}
use Rattle.facl_answers.specs.BothStates.{rows_in_both}
use Rattle.facl_counts.specs.InnerGains.{gained_of, lines_of_user}
use Rattle.facl_answers.specs.PathTexts.{text_in}
use Rattle.facl_counts.proofs.StateGains.{all_gains, as_many, written_back}
use Rattle.facl_counts.proofs.gains.gains_of_users.Goals as goal

pub returns : goal.returns
returns g c =
    let V = g.J.Judge.verdict_of in
    let asked = c.args.verdicts.now in
    let people_of = λ (known : State). known.people in
    let tree_of = λ (known : State). known.tree in
    let new = c.count_all.new.users in
    let as_before : length c.deref_mut.result.now ≡ length new = as_many (rows_in_both V asked.along c.args.loaded.now asked.state.now) c.deref_mut.result.now new c.in_ok-count_all.ensures in
    let long : c.in_ok-users.users.len ≡ length new = omega (arith, as_before, ap length c.deref_mut.ensures.value, c.in_ok-users.users.ok) in
    ap (flat_map (lines_of_user (text_in c.args.loaded.now.tree asked.state.now.tree))) (written_back c.in_ok-users.users.len c.in_ok-users.users.items new long)
    ∙ all_gains V asked.along c.args.loaded.now asked.state.now
    (subst (λ (t : Recorded). IsInOrder t.files) (c.tree.ensures ∙ ap tree_of c.state.ensures) c.soundness_law.ensures.order)
    (subst (λ (t : Recorded). IsInOrder t.files) (c.tree-2.ensures ∙ ap tree_of c.state-2.ensures) c.soundness_law-2.ensures.order)
    c.people.result.now c.people-people.result.now (c.people.ensures ∙ ap people_of c.state-4.ensures) (c.people-people.ensures ∙ ap people_of c.state-3.ensures)
    c.in_ok-placed.placed.items c.in_ok-placed.ensures
    c.deref_mut.result.now c.count_all.new.users (ap (map gained_of) c.deref_mut.ensures.value ∙ c.in_ok-users.ensures) c.in_ok-count_all.ensures
