use Rattle.std.proofs.Common.{subst, map, string_bytes}
use Rattle.acl_rights.specs.Deciders.{judging}
use Rattle.facl_tools.specs.Replies.{Gives}
use Rattle.facl.specs.Sessions.{states_of, out_of, err_of, ran_out_of_memory}
use Rattle.facl.specs.Units.{words_of_line}
use Rattle.facl.proofs.Refusing.{refused_line}
use Rattle.facl.proofs.session.FaclSession.answer_line.Goals as goal

pub returns-in-Err-clause-answer : goal.returns-in-Err-clause-answer
returns-in-Err-clause-answer g c = λ u found.
    let content = subst (λ r. Gives (λ words. map string_bytes words.items) r (words_of_line u.line)) c.in-Err.is (c.words_of_line.ensures.words u.line found.line_is) in
    let new = c.refuse.new.self in
    let asked = g.J.Judge.asked_of c.args.judge.now in
    refused_line (judging g.J.Judge.verdict_of g.J.Judge.decider_of) u (ran_out_of_memory new) c.args.unit.now.number c.in-Err.fault (states_of c.args.self.now) (states_of new)
    asked (out_of new) (err_of new) found.number c.refuse.ensures.memory content (c.refuse.ensures.answer asked)
