use Rattle.std.proofs.Common.{arith}
use Rattle.std.proofs.lemmas.Grind.{common_steps}
use Rattle.acl_people.proofs.Gids.{gids_more}
use Rattle.acl_people.proofs.Pointers.{map_take_more}
use Rattle.acl_people.proofs.persons.person_of.Goals as goal
use Rattle.acl_people.proofs.persons.person_of.Goals.{then-names_user+in_ok-push-2, else-names_user}

pub loop-group-preserved : goal.loop-group-preserved
loop-group-preserved c =
    let more = map_take_more (λ r. r.value) c.args.groups.now c.loop-group.group-index c.group-item.result c.loop-group-test.true c.group-item.is in
    elim c.if-names_user.branch [
      | then-names_user+in_ok-push-2 w ↦ grind (arith, common_steps, gids_more, more)
      | else-names_user w ↦ grind (arith, common_steps, gids_more, more)
    ]
