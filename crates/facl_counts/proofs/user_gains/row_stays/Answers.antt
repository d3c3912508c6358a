use Rattle.facl_counts.proofs.UserChanges.{stays_by}
use Rattle.facl_counts.proofs.user_gains.row_stays.Goals as goal

pub returns-then-after : goal.returns-then-after
returns-then-after c h = stays_by c.args.before.now c.args.after.now c.if-before.true c.if-after.true (c.same_row.ensures.0 h)
