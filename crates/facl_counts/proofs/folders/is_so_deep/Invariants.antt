use Rattle.std.proofs.Common.{◌≡◌, ◌+◌, nat_le, length}
use Rattle.facl_counts.proofs.folders.is_so_deep.Given as goal

abbrev pub invariant-loop-component : goal.invariant-loop-component
invariant-loop-component l = nat_le (length l.path) (length l.top + l.more) ≡ nat_le (length l.rest) (length l.parts + l.left)

abbrev pub decreases-loop-component : goal.decreases-loop-component
decreases-loop-component l = length l.rest
