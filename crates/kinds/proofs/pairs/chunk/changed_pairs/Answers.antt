use Rattle.std.proofs.Common.{sym, subst}
use Rattle.kinds.specs.PairSets.{AreRising}
use Rattle.kinds.proofs.PairLists.{rising_filter}
use Rattle.kinds.proofs.PairSteps.{change_more}
use Rattle.kinds.proofs.pairs.chunk.changed_pairs.Goals as goal

pub loop-change-preserved : goal.loop-change-preserved
loop-change-preserved c = record {
  rising = subst AreRising (sym c.split_around.ensures.after) (rising_filter _ c.loop-change.rest.now c.loop-change.invariant.rising);
  all =
      change_more c.args.changes.now c.loop-change.change-index _ c.loop-change.new.items c.extend_from_slice.new.self.items c.push_put.new.new.items c.loop-change.rest.now
      c.split_around.result.0.now c.split_around.result.1.now _ c.loop-change-test.true c.split_around.ensures.before c.split_around.ensures.after
      c.in_ok-extend_from_slice.ensures.items c.in_ok-push_put.ensures c.loop-change.invariant.all;
}
