use Rattle.std.proofs.Common.{rules, ◌∙◌, ℕ, Ok, refl, sym, ap, subst}
use Rattle.std.specs.Prelude.{IfSome}
use Rattle.std.proofs.lemmas.Result.{err_from_is_err_and}
use Rattle.acl_rights.specs.Deciders.{judging}
use Rattle.facl_output.specs.Faults.{run_fault_of_script}
use Rattle.facl_script.specs.Streams.{streams}
use Rattle.facl.specs.Asking.{RunsAsking}
use Rattle.facl.specs.Runs.{EndsBy, devices}
use Rattle.facl.specs.Sessions.{states_of}
use Rattle.facl.proofs.Bytes.{runs_asking}
use Rattle.facl.proofs.Ending.{ends_by}
use Rattle.facl.proofs.program.run_from.Goals as goal

pub returns-clause-ok : goal.returns-clause-ok
returns-clause-ok g c =
    let J = judging g.J.Judge.verdict_of g.J.Judge.decider_of in
    let known = g.R.Feed.remaining c.args.reader.now in
    let old = streams (g.O.Sink.contents c.args.out.now) (g.E.Sink.contents c.args.err.now) in
    let new = streams (g.O.Sink.contents c.run_session.new.out) (g.E.Sink.contents c.run_session.new.err) in
    let runs = runs_asking J (Ok c.args.state) c.args.state (states_of c.in_ok-session.session) (states_of c.run_session.new.session.session)
    known c.in_ok-is_refused.is_refused c.of.result _ _ old new
    refl c.in_ok-session.ensures.state c.in_ok-session.ensures.asked c.of.ensures c.in_ok-is_refused.ensures.answers in
    subst (λ (n : ℕ). IfSome known (λ script. RunsAsking J (Ok c.args.state) script c.of.result n old new))
    (ap g.J.Judge.asked_of (sym c.drop-judged-2.ensures ∙ search rules)) runs

pub returns-in_err-is_refused-clause-fault : goal.returns-in_err-is_refused-clause-fault
returns-in_err-is_refused-clause-fault g c =
    let J = judging g.J.Judge.verdict_of g.J.Judge.decider_of in
    let p = err_from_is_err_and c.from_residual-in_err-is_refused.result c.from_residual-in_err-is_refused.ensures.1 in
    let asked = g.J.Judge.asked_of c.run_session.new.session.judge.now in
    let old = devices (g.R.Feed.remaining c.args.reader.now) (g.O.Sink.contents c.args.out.now) (g.E.Sink.contents c.args.err.now) in
    let new = devices (g.R.Feed.remaining c.run_session.new.reader) (g.O.Sink.contents c.run_session.new.out) (g.E.Sink.contents c.run_session.new.err) in
    let ends = ends_by c.in_err-is_refused.field-0.0 J (Ok c.args.state) c.args.state (states_of c.in_ok-session.session)
    (states_of c.run_session.new.session.session) _ asked old new
    refl c.in_ok-session.ensures.state c.in_ok-session.ensures.asked c.in_err-is_refused.ensures.answers in
    rw (p.1, p.2)
    (subst (λ (n : ℕ). EndsBy (run_fault_of_script c.in_err-is_refused.field-0.0) J (Ok c.args.state) n old new)
    (ap g.J.Judge.asked_of (sym c.drop-judged.ensures ∙ search rules)) ends)
