use Rattle.std.proofs.Common.{◌≡◌, ℕ, List, map, take}
use Rattle.acl_people.specs.Members.{gids_at, rows_gids}
use Rattle.acl_people.proofs.memberships.members_of.Given as goal

abbrev pub invariant-loop-row : goal.invariant-loop-row
invariant-loop-row l = (q : List ℕ) → gids_at l.members q ≡ rows_gids q (take l.row-index (map (λ r. r.value) l.rows))
