use Rattle.path_classes.proofs.KeptCounts.{run_more, run_first}
use Rattle.path_classes.proofs.kept_classes.release_run.Goals as goal

pub returns-then-number-last-clause-counts : goal.returns-then-number-last-clause-counts
returns-then-number-last-clause-counts c = run_more c.args.kinds c.args.last c.args.number c.args.pending c.if-number-last.true

pub returns-clause-counts : goal.returns-clause-counts
returns-clause-counts c = run_first c.args.kinds c.in_ok-kinds.kinds c.args.last c.args.number c.args.pending c.in_ok-kinds.ensures
