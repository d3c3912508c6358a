use Rattle.std.proofs.Common.{map, take}
use Rattle.facl_counts.specs.Counting.{tallied}
use Rattle.facl_answers.specs.BothStates.{both_of}
use Rattle.facl_counts.specs.InnerGains.{ArePassed}
use Rattle.facl_counts.proofs.user_gains.count_changes.Given as goal

abbrev pub invariant-loop-tally : goal.invariant-loop-tally
invariant-loop-tally l = ArePassed (both_of l.both) (map tallied (take l.tally-index l.tallies)) l.initial.users l.users
