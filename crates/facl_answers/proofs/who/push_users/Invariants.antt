use Rattle.std.proofs.Common.{◌≡◌, ◌++◌, take}
use Rattle.std.specs.List.{flat_map}
use Rattle.facl_answers.specs.Inner.{line_at}
use Rattle.facl_answers.proofs.who.push_users.Given as goal

abbrev pub invariant-loop-user : goal.invariant-loop-user
invariant-loop-user l = l.text.items ≡ l.initial.text.items ++ flat_map (line_at l.people) (take l.user-index l.users)
