use Rattle.std.proofs.Common.{arith}
use Rattle.std.proofs.lemmas.Grind.{common_steps}
use Rattle.acl_people.proofs.Pointers.{map_take_more}
use Rattle.acl_people.proofs.memberships.members_of.Goals as goal

pub loop-row-preserved : goal.loop-row-preserved
loop-row-preserved c = λ q.
    let more = map_take_more (λ r. r.value) c.args.rows.now c.loop-row.row-index c.row-item.result c.loop-row-test.true c.row-item.is in
    grind (arith, common_steps, more, c.loop-row.invariant q, c.in_ok-add_row.ensures q)
