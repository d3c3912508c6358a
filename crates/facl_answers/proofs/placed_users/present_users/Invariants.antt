use Rattle.std.proofs.Common.{◌≡◌, take, map}
use Rattle.facl_answers.specs.Inner.{placed_of, placed_in}
use Rattle.facl_answers.proofs.placed_users.present_users.Given as goal

abbrev pub invariant-loop-user : goal.invariant-loop-user
invariant-loop-user l = map placed_of l.users.items ≡ map (λ row. placed_in l.loaded l.now row.name) (take l.user l.now.users)
