use Rattle.std.proofs.Common.{sym, subst, ◌∙◌}
use Rattle.acl_rights.specs.States.{loaded_state}
use Rattle.acl_rights.specs.Deciders.{judging}
use Rattle.facl_tools.specs.Replies.{Replies}
use Rattle.facl.specs.ToolLines.{answered}
use Rattle.facl.proofs.tools.answer.Goals as goal

pub returns-in-Useradd : goal.returns-in-Useradd
unfolding answered
returns-in-Useradd g c =
    let J = judging g.J.Judge.verdict_of g.J.Judge.decider_of in
    let loaded = loaded_state c.args.indexed_states.now in
    let state = c.state-state.result.now in
    subst (λ s. Replies s c.answer-in-Useradd.result (answered J loaded s c.args.line c.args.text.now)) (c.state-state.ensures ∙ c.state-indexed.ensures)
    (subst (λ l. Replies state c.answer-in-Useradd.result (answered J loaded state l c.args.text.now)) (sym c.in-Useradd.is) c.answer-in-Useradd.ensures)
