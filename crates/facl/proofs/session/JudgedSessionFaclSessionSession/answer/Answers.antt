use Rattle.std.proofs.Common.{◌∙◌, sym, subst, ap}
use Rattle.acl_rights.specs.Deciders.{judging}
use Rattle.facl_script.specs.Run.{IsAnswer}
use Rattle.acl_rights.specs.States.{states_in}
use Rattle.facl.specs.Sessions.{states_of, out_of, err_of, ran_out_of_memory}
use Rattle.facl.specs.Counted.{answered_line}
use Rattle.facl.proofs.Refusing.{not_silent}
use Rattle.facl.proofs.session.JudgedSessionFaclSessionSession.answer.Goals as goal

pub returns-clause-answers : goal.returns-clause-answers
returns-clause-answers g c = λ u found.
    let J = judging g.J.Judge.verdict_of g.J.Judge.decider_of in
    let new = c.answer_line.new.self in
    let ran_out = ran_out_of_memory new in
    let asked = g.J.Judge.asked_of in
    let silent = sym (c.is_silent.ensures u.line found.line_is) ∙ c.if-is_silent.false in
    let answer = ap (λ w. answered_line J ran_out u (states_in w)) c.fall_silent.ensures.indexed_states ∙ sym (not_silent J u ran_out (states_of c.args.self.now.session) silent) in (
      ran_out,
      subst (λ a. IsAnswer a (states_of new) (asked c.args.self.now.judge.now) (asked c.answer_line.new.judge) (out_of new) (err_of new) c.answer_line.result)
          answer (c.answer_line.ensures.answer u found),
    )
