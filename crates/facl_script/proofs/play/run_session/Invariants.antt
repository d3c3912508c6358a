use Rattle.std.proofs.Common.{◌≡◌, ◌-◌, ℕ, true, false, List, length}
use Rattle.std.specs.Io.KnownBytes.{Consumes, IsAtEnd}
use Rattle.facl_script.specs.Limits.{script_limit}
use Rattle.facl_script.specs.Script.{script_left, script_taken, next_number, is_over}
use Rattle.facl_script.specs.Play.{Answer}
use Rattle.facl_script.specs.Streams.{streams, moment}
use Rattle.facl_script.specs.Run.{IsGiven}
use Rattle.facl_script.proofs.Progress.{Progress}
use Rattle.facl_script.proofs.play.run_session.Given as goal

abbrev pub invariant-loop-script : goal.invariant-loop-script
invariant-loop-script g l = record {
  reader_works : g.R.Feed.has_failed l.reader ≡ false;
  out_works : g.O.Sink.has_failed l.out ≡ false;
  err_works : g.E.Sink.has_failed l.err ≡ false;
  taken : List ℕ;
  answer_so_far : Answer g.row.S-State.Denot;
  progress : Progress g.S.Session.asks g.S.Session.answered (g.S.Session.state l.fn.session) taken (next_number l.script) (is_over l.script) answer_so_far;
  consumes : Consumes (g.R.Feed.remaining l.fn.reader) (script_left l.script (g.R.Feed.remaining l.reader)) taken;
  last : is_over l.script ≡ true → IsAtEnd (script_left l.script (g.R.Feed.remaining l.reader));
  ready : g.S.Session.is_ready (next_number l.script) l.session;
  gives : IsGiven answer_so_far
      (moment (g.S.Session.state l.fn.session) (g.S.Session.spent l.fn.session) (streams (g.O.Sink.contents l.fn.out) (g.E.Sink.contents l.fn.err)))
      (moment (g.S.Session.state l.session) (g.S.Session.spent l.session) (streams (g.O.Sink.contents l.out) (g.E.Sink.contents l.err)));
  refused : l.is_refused ≡ answer_so_far.refused;
  count : script_taken l.script ≡ length taken;
  held : g.S.Session.held l.session ≡ g.S.Session.held l.fn.session;
}

abbrev pub decreases-loop-script : goal.decreases-loop-script
decreases-loop-script g l = script_limit - script_taken l.script
