use Rattle.std.proofs.Common.{length}
use Rattle.kinds.proofs.pairs.part.+push_seconds_in.Given as goal

abbrev pub decreases-push_seconds_in : goal.decreases-push_seconds_in
decreases-push_seconds_in g l = length l.parts.now
