use Rattle.std.proofs.Common.{not, ◌∙◌, rules, of_calls}
use Rattle.std.proofs.lemmas.List.Sorted.{IsPartitionPoint-from_clause}
use Rattle.kinds.specs.PairSets.{is_before}
use Rattle.kinds.proofs.PairSplits.{parted_pairs, falls_before, falls_up_to, point_front, point_back}
use Rattle.kinds.proofs.pairs.pair.split_around.Goals as goal

pub returns-clause-before : goal.returns-clause-before
returns-clause-before c =
    c.split_at.ensures.front
    ∙ point_front (λ p. is_before p c.args.pair.now) c.args.pairs.now c.partition_point-before.result
    (IsPartitionPoint-from_clause (λ p. is_before p c.args.pair.now) c.args.pairs.now c.partition_point-before.result c.partition_point-before.ensures.partitioned
    (parted_pairs (λ p. is_before p c.args.pair.now) (falls_before c.args.pair.now) c.args.pairs.now c.requires) (λ a r f k. search (rules, of_calls)))

pub returns-clause-after : goal.returns-clause-after
returns-clause-after c =
    c.split_at-2.ensures.back
    ∙ point_back (λ p. is_before c.args.pair.now p) c.args.pairs.now c.partition_point-up_to.result
    (IsPartitionPoint-from_clause (λ p. not (is_before c.args.pair.now p)) c.args.pairs.now c.partition_point-up_to.result c.partition_point-up_to.ensures.partitioned
    (parted_pairs (λ p. not (is_before c.args.pair.now p)) (falls_up_to c.args.pair.now) c.args.pairs.now c.requires) (λ a r f k. search (rules, of_calls)))
