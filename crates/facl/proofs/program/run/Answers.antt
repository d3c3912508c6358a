use Rattle.acl_rights.specs.Deciders.{posix}
use Rattle.facl_script.specs.Streams.{streams}
use Rattle.facl.specs.Setups.{initial_state}
use Rattle.facl.proofs.Bytes.{runs_to}
use Rattle.facl.proofs.program.run.Goals as goal

pub returns-clause-ok : goal.returns-clause-ok
returns-clause-ok g c =
    runs_to posix (initial_state c.args.setup.now) c.run_judged.result (g.R.Feed.remaining c.args.reader.now) _
    (streams (g.O.Sink.contents c.args.out.now) (g.E.Sink.contents c.args.err.now))
    (streams (g.O.Sink.contents c.run_judged.new.out) (g.E.Sink.contents c.run_judged.new.err)) c.run_judged.ensures.ok
