use Rattle.std.proofs.Common.{arith}
use Rattle.std.proofs.lemmas.Grind.{common_steps}
use Rattle.acl_people.proofs.Pointers.{map_take_more}
use Rattle.acl_people.proofs.memberships.add_row.Goals as goal

pub loop-name-preserved : goal.loop-name-preserved
loop-name-preserved c = λ q.
    let more = map_take_more (λ n. n.value) c.members-name-items.result.now c.loop-name.name-index c.name-item.result c.loop-name-test.true c.name-item.is in
    grind (arith, common_steps, more, c.loop-name.invariant q, c.in_ok-join.ensures q)
