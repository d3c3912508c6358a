use Rattle.std.proofs.Common.{◌-◌}
use Rattle.path_classes.specs.ClassCounts.{AreMetBelow}
use Rattle.path_classes.proofs.class_counts.next_unmet.Given as goal

abbrev pub invariant-loop-number : goal.invariant-loop-number
invariant-loop-number l = AreMetBelow l.files l.met.places.items l.number

abbrev pub decreases-loop-number : goal.decreases-loop-number
decreases-loop-number l = l.end - l.number
