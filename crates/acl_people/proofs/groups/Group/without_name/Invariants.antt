use Rattle.std.proofs.Common.{◌≡◌, map, filter, not, take}
use Rattle.std.specs.Str.{bytes_eq}
use Rattle.acl_people.proofs.groups.Group.without_name.Given as goal

abbrev pub invariant-loop-member : goal.invariant-loop-member
invariant-loop-member l = map (λ n. n.value) l.members.items ≡ filter (λ member. not (bytes_eq member l.name)) (take l.member-index (map (λ n. n.value) l.member-items))
