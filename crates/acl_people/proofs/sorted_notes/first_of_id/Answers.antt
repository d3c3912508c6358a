use Rattle.std.proofs.Common.{◌≡◌, true, false, sym, ◌∙◌, rules, of_calls}
use Rattle.std.specs.Prelude.{nat_lt}
use Rattle.std.specs.List.Sorted.{IsPartitionPoint}
use Rattle.std.proofs.lemmas.Bool.{ltb-true, ltb-false}
use Rattle.std.proofs.lemmas.List.Sorted.{IsPartitionedBy-ltb, IsPartitionPoint-from_clause}
use Rattle.acl_people.proofs.NotesInOrder.{first_is, first_is_not, no_first}
use Rattle.acl_people.proofs.sorted_notes.first_of_id.Goals as goal
use Rattle.acl_people.proofs.sorted_notes.first_of_id.Goals.{After-get}

-- where the binary search ends
point : (c : After-get) → IsPartitionPoint (λ n. nat_lt n.id c.args.id ≡ true) (λ n. nat_lt n.id c.args.id ≡ false) c.args.notes.now c.partition_point-at.result
point c =
    IsPartitionPoint-from_clause (λ n. nat_lt n.id c.args.id) c.args.notes.now c.partition_point-at.result c.partition_point-at.ensures.partitioned
    (IsPartitionedBy-ltb (λ n. n.id) c.args.notes.now c.args.id c.requires) (λ a r f k. search (rules, of_calls))

pub returns-then-eq : goal.returns-then-eq
returns-then-eq c =
    first_is c.args.id c.args.notes.now c.partition_point-at.result c.requires (point (goal.at.returns-then-eq c).After-get) c.in-Some.note.now
    (ltb-true _ _ (sym c.in-Some.ensures.lookup.0)) c.in-Some.ensures.lookup.1 (sym c.eq.ensures ∙ c.if-eq.true)

pub returns-else-eq : goal.returns-else-eq
returns-else-eq c =
    first_is_not c.args.id c.args.notes.now c.partition_point-at.result c.requires (point (goal.at.returns-else-eq c).After-get) c.in-Some.note.now
    (ltb-true _ _ (sym c.in-Some.ensures.lookup.0)) c.in-Some.ensures.lookup.1 (sym c.eq.ensures ∙ c.if-eq.false)

pub returns-in-None : goal.returns-in-None
returns-in-None c =
    no_first c.args.id c.args.notes.now c.partition_point-at.result c.requires (point (goal.at.returns-in-None c).After-get) (ltb-false _ _ (sym c.in-None.ensures.lookup.0))
