use Rattle.std.proofs.Common.{◌≡◌, OnErr, true, [], refl, subst}
use Rattle.facl_script.specs.Run.{IsAnswer}
use Rattle.facl_output.specs.declared.fault.LineFault.TheVariants.{NoMemory}
use Rattle.facl_tools.specs.Replies.{reply_of}
use Rattle.facl.specs.Sessions.{states_of, out_of, err_of, ran_out_of_memory}
use Rattle.facl.specs.Counted.{accepted, refused, unless_out_of_memory}
use Rattle.facl.proofs.Refusing.{lacks_memory}
use Rattle.facl.proofs.session.FaclSession.finish_line.Goals as goal

pub returns-in-Err-clause-answer : goal.returns-in-Err-clause-answer
returns-in-Err-clause-answer g c =
    let asked = g.J.Judge.asked_of in
    let states = states_of c.args.self.now in
    let tried = c.apply_effect.new.self in
    let new = c.refuse.new.self in
    let number = c.args.number in
    let ran_out = ran_out_of_memory new in
    let asked' = asked c.apply_effect.new.judge in
    let same : states_of tried ≡ states = subst (λ r. OnErr r (states_of tried ≡ states)) c.in-Err.is c.apply_effect.ensures.unchanged in
    lacks_memory ran_out number states (states_of new) (accepted number c.args.loads states (reply_of states.now c.args.effect)) (asked c.args.judge.now) asked' (out_of new) (err_of new)
    (c.refuse.ensures.memory refl) c.apply_effect.ensures.asked
    (subst (λ w. IsAnswer (unless_out_of_memory ran_out number w (refused number [] NoMemory w)) (states_of new) asked' asked' (out_of new) (err_of new) true) same (c.refuse.ensures.answer asked'))
