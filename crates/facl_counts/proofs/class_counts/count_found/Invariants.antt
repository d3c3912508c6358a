use Rattle.std.proofs.Common.{map, take}
use Rattle.path_classes.specs.Tallies.{SaysAs, class_tally}
use Rattle.facl_counts.specs.Sums.{of_class}
use Rattle.facl_counts.proofs.class_counts.count_found.Given as goal

abbrev pub invariant-loop-files : goal.invariant-loop-files
invariant-loop-files l = SaysAs l.tallies (map (λ files. of_class (class_tally files)) (take l.files-index l.found))
