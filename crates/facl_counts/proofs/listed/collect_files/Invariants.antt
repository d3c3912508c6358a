use Rattle.std.proofs.Common.{length}
use Rattle.facl_counts.specs.Listed.{left_within, IsListing}
use Rattle.facl_counts.proofs.listed.collect_files.Given as goal

abbrev pub invariant-loop-alloc : goal.invariant-loop-alloc
invariant-loop-alloc l = IsListing l.listing l.initial.found.items l.found.items (left_within l.top l.initial.walk) (left_within l.top l.walk)

abbrev pub decreases-loop-alloc : goal.decreases-loop-alloc
decreases-loop-alloc l = length l.walk.classes.1
