use Rattle.std.proofs.Common.{◌≡◌, map}
use Rattle.facl_counts.specs.Counting.{tallied}
use Rattle.facl_counts.specs.GainsText.{is_same}
use Rattle.path_classes.specs.Tallies.{first_where}
use Rattle.facl_counts.proofs.GainLines.{first_left}
use Rattle.facl_counts.proofs.gains.first_of.Given as goal

abbrev pub invariant-loop-tally : goal.invariant-loop-tally
invariant-loop-tally l = first_left (is_same l.granted) l.tallies l.tally-index ≡ first_where (is_same l.granted) (map tallied l.tallies)
