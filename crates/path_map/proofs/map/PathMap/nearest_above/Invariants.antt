use Rattle.std.proofs.Common.{length}
use Rattle.path_map.proofs.Nearest.{Alike}
use Rattle.path_map.proofs.map.PathMap.nearest_above.Given as goal

abbrev pub invariant-loop-entry : goal.invariant-loop-entry
invariant-loop-entry g l = Alike l.path l.top l.self

abbrev pub decreases-loop-entry : goal.decreases-loop-entry
decreases-loop-entry g l = length l.top
