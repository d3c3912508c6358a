use Rattle.std.proofs.Common.{◌≡◌, length, map}
use Rattle.path_classes.specs.ClassCounts.{AreMetBelow, AreMeeting}
use Rattle.path_classes.specs.Tallies.{class_tally}
use Rattle.path_classes.specs.NumberedRows.{AreMet}
use Rattle.path_classes.proofs.class_counts.meet_all.Given as goal

abbrev pub invariant-loop-file : goal.invariant-loop-file
invariant-loop-file l =
    (l.files ≡ record l.initial.files { left = l.files.left }) × (AreMet l.files l.met.places.items l.met.numbers.items
    × (AreMetBelow l.files l.met.places.items l.unmet × AreMeeting l.initial.files.left l.files.left l.met.places.items (map class_tally l.found.items)))

abbrev pub decreases-loop-file : goal.decreases-loop-file
decreases-loop-file l = length l.files.left
