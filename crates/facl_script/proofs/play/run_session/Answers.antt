use Rattle.std.proofs.Common.{◌≡◌, ℕ, Bool, List, true, not, [], ◌++◌, length-append, refl, sym, ap, ◌∙◌, subst, arith, true≢false}
use Rattle.std.proofs.KnownBytes.{Appends-nil, Consumes-trans}
use Rattle.std.proofs.lemmas.Bool.{or_parts}
use Rattle.std.proofs.lemmas.Result.{err_from_is_err_and}
use Rattle.facl_script.specs.ByteSource.{pending}
use Rattle.facl_script.specs.Script.{script_left, next_number, is_over}
use Rattle.facl_script.specs.Play.{quiet, joined}
use Rattle.facl_script.specs.Streams.{streams, moment}
use Rattle.facl_script.proofs.Progress.{Progress}
use Rattle.facl_script.proofs.ProgressLemmas.{begins, goes_on}
use Rattle.facl_script.proofs.RunEnds.{left_consumes, ends_here, at_end, reader_ended, not_over, stops_reading, fails_writing, none_of, not_end, either_way, IsGiven-joined, IsGivenAt}
use Rattle.facl_script.proofs.play.run_session.Goals as goal
use Rattle.facl_script.proofs.TextLemmas.{of_not}

pub loop-script-init : goal.loop-script-init
loop-script-init g c = record {
  reader_works = c.requires.reader;
  out_works = c.requires.out;
  err_works = c.requires.err;
  taken = [];
  answer_so_far = quiet (g.S.Session.state c.args.session.now);
  progress = rw (c.new-script.ensures.number, c.new-script.ensures.over) (begins g.S.Session.asks g.S.Session.answered (g.S.Session.state c.args.session.now));
  consumes = left_consumes _ _ (c.new-script.ensures.left (g.R.Feed.remaining c.args.reader.now));
  last = λ e. absurd (true≢false (sym e ∙ c.new-script.ensures.over));
  ready = rw c.new-script.ensures.number c.requires.ready;
  gives = record { writes = record { out_grows = Appends-nil _; err_grows = Appends-nil _ }; state_is = refl; spends = omega arith };
  refused = refl;
  count = c.new-script.ensures.taken;
  held = refl;
}

pub returns-clause-answers : goal.returns-clause-answers
returns-clause-answers g c =
    let inv = c.loop-script.invariant in
    let before = script_left c.loop-script.script (g.R.Feed.remaining c.loop-script.reader) in
    let after = script_left c.next_unit.new.self (g.R.Feed.remaining c.next_unit.new.reader) in
    let found = rw (none_of c.in_ok-unit.field-0 c.in_default.not-Some) at c.in_ok-unit.ensures.reads in
    let same : is_over c.loop-script.script ≡ true → after ≡ before =
    λ e. ap (λ s. script_left s (g.R.Feed.remaining c.next_unit.new.reader)) (c.in_ok-unit.ensures.over e).1
    ∙ ap (λ r. script_left c.loop-script.script (g.R.Feed.remaining r)) (c.in_ok-unit.ensures.over e).2 in
    let ended = at_end (is_over c.loop-script.script) before after (λ e. (same e, inv.last e)) (λ e. ((found e).0.0, (found e).0.1)) in
    let old = moment (g.S.Session.state c.args.session.now) (g.S.Session.spent c.args.session.now) (streams (g.O.Sink.contents c.args.out.now) (g.E.Sink.contents c.args.err.now)) in
    let new = moment (g.S.Session.state c.loop-script.session) (g.S.Session.spent c.loop-script.session) (streams (g.O.Sink.contents c.loop-script.out) (g.E.Sink.contents c.loop-script.err)) in
    ends_here g.S.Session.asks g.S.Session.answered old new (g.R.Feed.remaining c.args.reader.now) before after
    inv.taken (next_number c.loop-script.script) (is_over c.loop-script.script) inv.answer_so_far inv.progress inv.consumes ended.0 ended.1
    (omega (arith, inv.count, c.loop-script.script.source.within)) inv.gives c.loop-script.is_refused inv.refused

pub returns-clause-end : goal.returns-clause-end
returns-clause-end g c =
    let inv = c.loop-script.invariant in
    let before = script_left c.loop-script.script (g.R.Feed.remaining c.loop-script.reader) in
    let after = script_left c.next_unit.new.self (g.R.Feed.remaining c.next_unit.new.reader) in
    let found = rw (none_of c.in_ok-unit.field-0 c.in_default.not-Some) at c.in_ok-unit.ensures.reads in
    let same : is_over c.loop-script.script ≡ true → after ≡ before =
    λ e. ap (λ s. script_left s (g.R.Feed.remaining c.next_unit.new.reader)) (c.in_ok-unit.ensures.over e).1
    ∙ ap (λ r. script_left c.loop-script.script (g.R.Feed.remaining r)) (c.in_ok-unit.ensures.over e).2 in
    let ended = at_end (is_over c.loop-script.script) before after (λ e. (same e, inv.last e)) (λ e. ((found e).0.0, (found e).0.1)) in
    reader_ended (pending c.next_unit.new.self.source) (g.R.Feed.remaining c.next_unit.new.reader) ended.1

pub returns-in_err-unit-clause-answers : goal.returns-in_err-unit-clause-answers
returns-in_err-unit-clause-answers g c =
    let inv = c.loop-script.invariant in
    let p = err_from_is_err_and c.from_residual.result c.from_residual.ensures.1 in
    let start = g.S.Session.state c.args.session.now in
    let number = next_number c.loop-script.script in
    let going = not_over (is_over c.loop-script.script) (λ e. let o = (c.in_err-unit.ensures.over e).0 in cc) in
    let h = c.in_err-unit.ensures.reads going in
    let progress = subst (λ (b : Bool). Progress g.S.Session.asks g.S.Session.answered start inv.taken number b inv.answer_so_far) going inv.progress in
    let old = moment (g.S.Session.state c.args.session.now) (g.S.Session.spent c.args.session.now) (streams (g.O.Sink.contents c.args.out.now) (g.E.Sink.contents c.args.err.now)) in
    let new = moment (g.S.Session.state c.loop-script.session) (g.S.Session.spent c.loop-script.session) (streams (g.O.Sink.contents c.loop-script.out) (g.E.Sink.contents c.loop-script.err)) in
    rw (p.1, p.2)
    (stops_reading g.S.Session.asks g.S.Session.answered old new c.in_err-unit.field-0.0
    (g.R.Feed.remaining c.args.reader.now) (script_left c.loop-script.script (g.R.Feed.remaining c.loop-script.reader)) (g.R.Feed.remaining c.next_unit.new.reader)
    c.next_unit.new.self (g.R.Feed.has_failed c.next_unit.new.reader) inv.taken number inv.answer_so_far progress h.0 h.1 inv.consumes h.2 (omega (arith, h.3, inv.count)) inv.gives)

pub answer_unit-requires-clause-ready : goal.answer_unit-requires-clause-ready
answer_unit-requires-clause-ready g c =
    let inv = c.loop-script.invariant in
    let going = not_over (is_over c.loop-script.script) (λ e. not_end _ _ c.in-Some.is _ (c.in_ok-unit.ensures.over e).0 refl) in
    let found = ((rw c.in-Some.is at c.in_ok-unit.ensures.reads) going).0 in
    rw (c.unit-held.ensures.number ∙ sym found.3.number ∙ found.2.numbered) inv.ready

pub returns-in_err-is_refused-clause-answers : goal.returns-in_err-is_refused-clause-answers
returns-in_err-is_refused-clause-answers g c =
    let inv = c.loop-script.invariant in
    let p = err_from_is_err_and c.from_residual-in_err-is_refused.result c.from_residual-in_err-is_refused.ensures.1 in
    let start = g.S.Session.state c.args.session.now in
    let number = next_number c.loop-script.script in
    let going = not_over (is_over c.loop-script.script) (λ e. not_end _ _ c.in-Some.is _ (c.in_ok-unit.ensures.over e).0 refl) in
    let progress = subst (λ (b : Bool). Progress g.S.Session.asks g.S.Session.answered start inv.taken number b inv.answer_so_far) going inv.progress in
    let found = ((rw c.in-Some.is at c.in_ok-unit.ensures.reads) going).0 in
    let piece : List ℕ = found.0 in
    let unit = found.1 in
    let before = script_left c.loop-script.script (g.R.Feed.remaining c.loop-script.reader) in
    let after = script_left c.next_unit.new.self (g.R.Feed.remaining c.next_unit.new.reader) in
    let a = g.R.Feed.remaining c.args.reader.now in
    let old = moment (g.S.Session.state c.args.session.now) (g.S.Session.spent c.args.session.now) (streams (g.O.Sink.contents c.args.out.now) (g.E.Sink.contents c.args.err.now)) in
    let now = moment (g.S.Session.state c.loop-script.session) (g.S.Session.spent c.loop-script.session) (streams (g.O.Sink.contents c.loop-script.out) (g.E.Sink.contents c.loop-script.err)) in
    let new = moment (g.S.Session.state c.answer_unit.new.session) (g.S.Session.spent c.answer_unit.new.session)
    (streams (g.O.Sink.contents c.answer_unit.new.out) (g.E.Sink.contents c.answer_unit.new.err)) in
    let h = c.in_err-is_refused.ensures.answers.0 unit (c.unit-held.ensures.held g.S.Session.asks unit found.3) in
    rw (p.1, p.2, c.in_err-is_refused.ensures.answers.1)
    (fails_writing g.S.Session.asks g.S.Session.answered old now new a (g.R.Feed.remaining c.next_unit.new.reader) c.next_unit.new.self
    inv.taken number (next_number c.next_unit.new.self) inv.answer_so_far progress before _ _ piece unit found.2
    (Consumes-trans a before after inv.taken piece inv.consumes found.2.consumes) inv.gives h.0 h.1)

pub loop-script-preserved : goal.loop-script-preserved
loop-script-preserved g c =
    let inv = c.loop-script.invariant in
    let start = g.S.Session.state c.args.session.now in
    let number = next_number c.loop-script.script in
    let going = not_over (is_over c.loop-script.script) (λ e. not_end _ _ c.in-Some.is _ (c.in_ok-unit.ensures.over e).0 refl) in
    let progress = subst (λ (b : Bool). Progress g.S.Session.asks g.S.Session.answered start inv.taken number b inv.answer_so_far) going inv.progress in
    let found = ((rw c.in-Some.is at c.in_ok-unit.ensures.reads) going).0 in
    let piece : List ℕ = found.0 in
    let unit = found.1 in
    let next = found.2 in
    let before = script_left c.loop-script.script (g.R.Feed.remaining c.loop-script.reader) in
    let after = script_left c.next_unit.new.self (g.R.Feed.remaining c.next_unit.new.reader) in
    let old = moment (g.S.Session.state c.args.session.now) (g.S.Session.spent c.args.session.now) (streams (g.O.Sink.contents c.args.out.now) (g.E.Sink.contents c.args.err.now)) in
    let now = moment (g.S.Session.state c.loop-script.session) (g.S.Session.spent c.loop-script.session) (streams (g.O.Sink.contents c.loop-script.out) (g.E.Sink.contents c.loop-script.err)) in
    let new = moment (g.S.Session.state c.answer_unit.new.session) (g.S.Session.spent c.answer_unit.new.session)
    (streams (g.O.Sink.contents c.answer_unit.new.out) (g.E.Sink.contents c.answer_unit.new.err)) in
    let h = subst (λ s. IsGivenAt g.S.Session.answered unit s c.in_ok-is_refused.field-0 now new) inv.gives.state_is
    (c.in_ok-is_refused.ensures.answers unit (c.unit-held.ensures.held g.S.Session.asks unit found.3)) in
    let ends : is_over c.next_unit.new.self ≡ not unit.is_full = (rw c.in-Some.is at c.in_ok-unit.ensures.ends) ∙ ap not (sym found.3.full) in
    let answer_so_far = joined inv.answer_so_far (g.S.Session.answered h.0 unit inv.answer_so_far.state) in
    record {
      reader_works = (c.in_ok-unit.ensures.reads going).1;
      out_works = (or_parts _ _ c.in_ok-is_refused.ensures.failed).0;
      err_works = (or_parts _ _ c.in_ok-is_refused.ensures.failed).1;
      taken = inv.taken ++ piece;
      answer_so_far = answer_so_far;
      progress = rw ends (goes_on g.S.Session.asks g.S.Session.answered start inv.taken number (next_number c.next_unit.new.self) inv.answer_so_far progress before after _ _ piece unit next h.0);
      consumes = Consumes-trans (g.R.Feed.remaining c.args.reader.now) before after inv.taken piece inv.consumes next.consumes;
      last = λ e. next.last (of_not unit.is_full (sym ends ∙ e));
      ready = c.answer_unit.ensures.ready (next_number c.next_unit.new.self)
          (omega (arith, c.unit-held.ensures.number, found.3.number, next.numbered, next.grows)) (omega (arith, c.next_unit.new.self.counted, c.next_unit.new.self.source.within));
      gives = IsGiven-joined inv.answer_so_far (g.S.Session.answered h.0 unit inv.answer_so_far.state) old now new inv.gives h.1;
      refused = rw (inv.refused, h.2) refl;
      count = omega (arith, next.count, inv.count, length-append inv.taken piece);
      held = c.answer_unit.ensures.held ∙ inv.held;
    }

pub returns-clause-works : goal.returns-clause-works
returns-clause-works g c =
    let inv = c.loop-script.invariant in (
      either_way (is_over c.loop-script.script) (λ e. ap g.R.Feed.has_failed (c.in_ok-unit.ensures.over e).2 ∙ inv.reader_works) (λ e. (c.in_ok-unit.ensures.reads e).1),
      inv.out_works,
      inv.err_works,
    )
