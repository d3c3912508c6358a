use Rattle.std.proofs.Common.{◌++◌, flat_map, ap, ◌∙◌, take-append-drop}
use Rattle.kinds.proofs.PairSteps.{rising_take, rising_drop}
use Rattle.kinds.proofs.PairHalves.{one_more_part}
use Rattle.kinds.proofs.pairs.change.push_chunks.Goals as goal

pub chunk_of-requires-clause-rising : goal.chunk_of-requires-clause-rising
chunk_of-requires-clause-rising c =
    rising_take c.min.result c.loop-rest.rest.now c.split_at.result.0.now c.split_at.result.1.now c.split_at.ensures.front c.split_at.ensures.back c.loop-rest.invariant.rising

pub loop-rest-preserved : goal.loop-rest-preserved
loop-rest-preserved c = record {
  rising = rising_drop c.min.result c.loop-rest.rest.now c.split_at.result.0.now c.split_at.result.1.now c.split_at.ensures.front c.split_at.ensures.back c.loop-rest.invariant.rising;
  all =
      ap (λ l. flat_map (λ b. b.value) l ++ c.split_at.result.1.now) c.in_ok-push.ensures.items
      ∙ one_more_part (λ b. b.value) c.loop-rest.new.items c.in_ok-chunk_of.field-0 c.loop-rest.rest.now c.split_at.result.1.now
      (ap (λ l. l ++ c.split_at.result.1.now) c.in_ok-chunk_of.ensures ∙ (λ i. c.split_at.ensures.front i ++ c.split_at.ensures.back i) ∙ take-append-drop c.min.result c.loop-rest.rest.now)
      ∙ c.loop-rest.invariant.all;
}
