use Rattle.std.proofs.Common.{ap, subst, sym, ◌∙◌}
use Rattle.acl_rights.specs.States.{loaded_state}
use Rattle.acl_rights.specs.Deciders.{judging}
use Rattle.acl_text.specs.Results.{◌>>=◌}
use Rattle.facl_tools.specs.Replies.{Replies}
use Rattle.facl.specs.Tools.{words_answered}
use Rattle.facl.proofs.ToolLines.{words_answered_is}
use Rattle.facl.proofs.tools.tool_line.Goals as goal

pub returns : goal.returns
returns g c =
    let states = c.args.indexed_states.now in
    let judge = judging g.J.Judge.verdict_of g.J.Judge.decider_of in
    let loaded = loaded_state states in
    let tool = c.args.tool in
    let text = c.args.text.now in
    subst (λ r. Replies states.state c.line_answer-effect.result r)
    (sym (words_answered_is judge loaded states.state c.in_ok-words.words text tool)
    ∙ ap (λ o. o >>= λ w. words_answered judge loaded states.state tool w text) (sym c.in_ok-words.ensures)) c.line_answer-effect.ensures
