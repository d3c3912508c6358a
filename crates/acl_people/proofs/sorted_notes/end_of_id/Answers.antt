use Rattle.std.proofs.Common.{rules, of_calls}
use Rattle.std.specs.Prelude.{nat_le}
use Rattle.std.proofs.lemmas.List.Sorted.{IsPartitionedBy-leb, IsPartitionPoint-from_clause}
use Rattle.acl_people.proofs.NotesInOrder.{end_at}
use Rattle.acl_people.proofs.sorted_notes.end_of_id.Goals as goal

pub returns-clause-end : goal.returns-clause-end
returns-clause-end c =
    end_at c.args.id c.args.notes.now c.partition_point.result
    (IsPartitionPoint-from_clause (λ n. nat_le n.id c.args.id) c.args.notes.now c.partition_point.result c.partition_point.ensures.partitioned
    (IsPartitionedBy-leb (λ n. n.id) c.args.notes.now c.args.id c.requires) (λ a r f k. search (rules, of_calls)))
