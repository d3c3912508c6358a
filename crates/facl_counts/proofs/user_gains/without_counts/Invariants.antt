use Rattle.std.proofs.Common.{◌≡◌, [], map}
use Rattle.facl_answers.specs.Inner.{placed_of}
use Rattle.facl_counts.specs.InnerGains.{gained_of}
use Rattle.facl_counts.proofs.user_gains.without_counts.Given as goal

abbrev pub invariant-loop-user : goal.invariant-loop-user
invariant-loop-user l = map gained_of l.all.items ≡ map (λ user. (placed_of user, [])) l.yielded
