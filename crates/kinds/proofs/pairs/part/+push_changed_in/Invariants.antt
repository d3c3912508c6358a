use Rattle.std.proofs.Common.{length}
use Rattle.kinds.proofs.pairs.part.+push_changed_in.Given as goal

abbrev pub decreases-push_changed_in : goal.decreases-push_changed_in
decreases-push_changed_in g l = length l.parts.now
