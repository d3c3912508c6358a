use Rattle.std.proofs.Common.{sym, subst, ◌∙◌, arith}
use Rattle.std.proofs.lemmas.Grind.{common_steps}
use Rattle.acl_tree.specs.State.{State}
use Rattle.acl_rights.specs.Outside.{SameOutside}
use Rattle.acl_rights.specs.States.{loaded_state}
use Rattle.facl.proofs.tools.gains.answer.Goals as goal

pub write_gains_within-requires-clause-same : goal.write_gains_within-requires-clause-same
write_gains_within-requires-clause-same g c =
    let V = g.J.Judge.verdict_of in
    let tops = c.changed.result.now in
    subst (λ (s : State). SameOutside V tops s c.verdicts-verdicts.result.state.now) (sym c.loaded.ensures)
    (subst (λ (s : State). SameOutside V tops (loaded_state c.args.indexed_states.now) s) (sym (c.verdicts-verdicts.ensures.state ∙ c.state.ensures)) c.changed.ensures.same)

pub returns-in_err-out : goal.returns-in_err-out
returns-in_err-out g c = grind (arith, common_steps)

pub returns : goal.returns
returns g c = grind (arith, common_steps)
