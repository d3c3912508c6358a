use Rattle.std.proofs.Common.{rules, of_calls}
use Rattle.std.proofs.lemmas.List.Sorted.{IsPartitionPoint-from_clause}
use Rattle.kinds.specs.PairSets.{is_before}
use Rattle.kinds.proofs.PairSplits.{parted, falls_before, split_named}
use Rattle.kinds.proofs.pairs.pair.split_changes.Goals as goal

pub returns : goal.returns
returns c =
    split_named c.args.pair.now c.args.changes.now c.split_at.result.0.now c.split_at.result.1.now c.partition_point.result c.split_at.ensures.front c.split_at.ensures.back
    (IsPartitionPoint-from_clause (λ x. is_before x.pair c.args.pair.now) c.args.changes.now c.partition_point.result c.partition_point.ensures.partitioned
    (parted (λ x. x.pair) (λ q. is_before q c.args.pair.now) (falls_before c.args.pair.now) c.args.changes.now c.requires) (λ a r f k. search (rules, of_calls)))
