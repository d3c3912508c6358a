use Rattle.std.proofs.Common.{◌≡◌, map, drop}
use Rattle.facl_counts.specs.Counting.{tallied}
use Rattle.facl_counts.specs.Sums.{after_tallies}
use Rattle.facl_counts.proofs.class_counts.add_tallies.Given as goal

abbrev pub invariant-loop-tally : goal.invariant-loop-tally
invariant-loop-tally l =
    after_tallies l.classes.0 l.request (map tallied (drop l.tally-index l.tallies)) l.sums ≡ after_tallies l.classes.0 l.request (map tallied l.tallies) l.initial.sums
