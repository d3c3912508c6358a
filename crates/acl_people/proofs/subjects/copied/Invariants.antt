use Rattle.std.proofs.Common.{◌≡◌, map, take}
use Rattle.acl_people.proofs.subjects.copied.Given as goal

abbrev pub invariant-loop-user : goal.invariant-loop-user
invariant-loop-user l = map (λ s. s.value) l.all.items ≡ map (λ s. s.value) (take l.user-index l.users)
