use Rattle.std.proofs.Common.{length}
use Rattle.path_map.proofs.remap.+push_replaced.Given as goal

abbrev pub decreases-push_replaced : goal.decreases-push_replaced
decreases-push_replaced g l = length l.parts.now
