use Rattle.std.proofs.Common.{◌≡◌, map}
use Rattle.acl_people.proofs.each_shared.each_shared.Given as goal

abbrev pub invariant-loop-item : goal.invariant-loop-item
invariant-loop-item g l = map (λ item. item.value) l.all.items ≡ l.yielded
