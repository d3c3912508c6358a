use Rattle.std.proofs.Common.{◌≡◌, ◌++◌, Some, sym, ap, ◌∙◌}
use Rattle.std.specs.Prelude.{option_map}
use Rattle.std.specs.List.{flat_map}
use Rattle.acl_tree.specs.State.{State}
use Rattle.facl_answers.specs.Inner.{line_at}
use Rattle.acl_rights.specs.Verdicts.{users_granted}
use Rattle.facl_answers.proofs.UserLines.{who_lines}
use Rattle.facl_answers.proofs.who.write_who.Goals as goal

pub returns : goal.returns
returns g c =
    let V = g.J.Judge.verdict_of in
    let along = c.args.verdicts.now.along in
    let s = c.args.verdicts.now.state.now in
    let found : Some c.in-Some.users.items ≡ users_granted V along s c.args.path.now c.args.request = ap (option_map (λ users. users.items)) (sym c.in-Some.is) ∙ c.in_ok-users.ensures in
    let known = c.people.ensures ∙ ap (λ (known : State). known.people) c.state.ensures in
    ap Some (c.in_ok-push_users.ensures ∙ (λ i. c.new-text.ensures.items i ++ flat_map (line_at (known i)) (c.deref.ensures.value i)))
    ∙ who_lines V along s c.args.path.now c.args.request (Some c.in-Some.users.items) found
