use Rattle.std.proofs.Common.{◌≡◌, map}
use Rattle.acl_people.proofs.groups.shared_rows.Given as goal

abbrev pub invariant-loop-row : goal.invariant-loop-row
invariant-loop-row l = map (λ r. r.value) l.groups.items ≡ l.yielded
