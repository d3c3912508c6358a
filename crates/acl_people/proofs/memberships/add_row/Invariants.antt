use Rattle.std.proofs.Common.{◌≡◌, ◌++◌, ℕ, List, map, filter, take}
use Rattle.std.specs.Str.{bytes_eq}
use Rattle.acl_people.specs.Members.{gids_at}
use Rattle.acl_people.proofs.memberships.add_row.Given as goal

abbrev pub invariant-loop-name : goal.invariant-loop-name
invariant-loop-name l = (q : List ℕ) → gids_at l.members q ≡ gids_at l.fn.members q ++ map (λ _. l.row.gid) (filter (λ member. bytes_eq member q) (take l.name-index (map (λ n. n.value) l.name-items)))
