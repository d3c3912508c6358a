use Rattle.std.proofs.Common.{◌≡◌, map, take}
use Rattle.facl_counts.specs.Counting.{tallied}
use Rattle.facl_counts.specs.GainsText.{is_same}
use Rattle.path_classes.specs.Tallies.{count_where}
use Rattle.facl_counts.proofs.gains.count_of.Given as goal

abbrev pub invariant-loop-tally : goal.invariant-loop-tally
invariant-loop-tally l = l.sum ≡ count_where (is_same l.granted) (map tallied (take l.tally-index l.tallies))
