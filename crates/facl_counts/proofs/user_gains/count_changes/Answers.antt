use Rattle.std.proofs.Common.{map, take, sym, subst, ◌∙◌}
use Rattle.std.proofs.lemmas.List.{take_all}
use Rattle.facl_counts.specs.Counting.{tallied}
use Rattle.facl_answers.specs.BothStates.{both_of}
use Rattle.facl_counts.specs.InnerGains.{ArePassed, gained_of}
use Rattle.facl_counts.proofs.UserChanges.{passed_next, passed_none, places_stay}
use Rattle.facl_counts.proofs.user_gains.count_changes.Goals as goal

pub loop-tally-init : goal.loop-tally-init
loop-tally-init c = passed_none (both_of c.args.both.now) (map gained_of c.args.users.now)

pub loop-tally-preserved : goal.loop-tally-preserved
loop-tally-preserved c =
    passed_next (both_of c.args.both.now) c.args.tallies.now c.loop-tally.tally-index c.tally-item.result c.tally-item.result c.args.users.now
    c.loop-tally.users c.count_tally.new.users c.loop-tally-test.true c.tally-item.is
    c.loop-tally.invariant c.in_ok-count_tally.ensures

pub count_tally-requires : goal.count_tally-requires
count_tally-requires c = record {
  kept = λ kept.
      places_stay (both_of c.args.both.now) (map tallied (take c.loop-tally.tally-index c.args.tallies.now)) c.args.users.now c.loop-tally.users c.loop-tally.invariant
      ∙ sym c.keep_places-is_kept.ensures
      ∙ kept;
}

pub returns : goal.returns
returns c =
    subst (λ ts. ArePassed (both_of c.args.both.now) (map tallied ts) c.args.users.now c.loop-tally.users)
    (take_all c.loop-tally.tally-index c.args.tallies.now c.loop-tally-test.false) c.loop-tally.invariant
