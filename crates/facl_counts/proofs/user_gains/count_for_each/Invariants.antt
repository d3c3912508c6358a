use Rattle.facl_counts.specs.InnerGains.{row_given}
use Rattle.facl_counts.proofs.UserChanges.{AreCountedTo}
use Rattle.facl_counts.proofs.user_gains.count_for_each.Given as goal

abbrev pub invariant-loop-user : goal.invariant-loop-user
invariant-loop-user l = AreCountedTo (row_given l.before, row_given l.after) l.count l.first l.initial.users l.user-index l.users
