use Rattle.std.proofs.Common.{◌++◌, flat_map, sym, ap, subst, ◌∙◌}
use Rattle.kinds.specs.PairSets.{AreRising}
use Rattle.kinds.proofs.PairLists.{rising_left, rising_right}
use Rattle.kinds.proofs.PairHalves.{one_more_part, joined_parts}
use Rattle.kinds.proofs.pairs.change.push_branches.Goals as goal

pub branch_of-requires-clause-rising : goal.branch_of-requires-clause-rising
branch_of-requires-clause-rising g c =
    rising_left _ _ (subst AreRising (sym (joined_parts (λ part. g.P.Part.pairs_of part.value) c.min.result c.loop-rest.rest.now c.split_at.result.0.now c.split_at.result.1.now
    c.split_at.ensures.front c.split_at.ensures.back)) c.loop-rest.invariant.rising)

pub loop-rest-preserved : goal.loop-rest-preserved
loop-rest-preserved g c = record {
  rising =
      rising_right (flat_map (λ part. g.P.Part.pairs_of part.value) c.split_at.result.0.now) _
      (subst AreRising (sym (joined_parts (λ part. g.P.Part.pairs_of part.value) c.min.result c.loop-rest.rest.now c.split_at.result.0.now c.split_at.result.1.now
      c.split_at.ensures.front c.split_at.ensures.back)) c.loop-rest.invariant.rising);
  all =
      ap (λ l. flat_map (λ b. b.value) l ++ flat_map (λ part. g.P.Part.pairs_of part.value) c.split_at.result.1.now) c.in_ok-push.ensures.items
      ∙ one_more_part (λ b. b.value) c.loop-rest.new.items c.in_ok-branch_of.field-0 (flat_map (λ part. g.P.Part.pairs_of part.value) c.loop-rest.rest.now)
      (flat_map (λ part. g.P.Part.pairs_of part.value) c.split_at.result.1.now)
      (ap (λ l. l ++ flat_map (λ part. g.P.Part.pairs_of part.value) c.split_at.result.1.now) c.in_ok-branch_of.ensures
      ∙ joined_parts (λ part. g.P.Part.pairs_of part.value) c.min.result c.loop-rest.rest.now c.split_at.result.0.now c.split_at.result.1.now c.split_at.ensures.front c.split_at.ensures.back)
      ∙ c.loop-rest.invariant.all;
}
