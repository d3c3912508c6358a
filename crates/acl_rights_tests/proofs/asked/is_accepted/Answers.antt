use Rattle.std.proofs.Common.{◌≤◌, mul-le-mul_right, length, subst, arith}
use Rattle.acl_people.specs.KnownPeople.{KnownPeople}
use Rattle.acl_tree.specs.Files.{Recorded}
use Rattle.acl_rights_tests.proofs.asked.is_accepted.Goals as goal

pub after-requires-clause-room : goal.after-requires-clause-room
after-requires-clause-room c =
    let s = c.in-Some.staged.state in
    let files = subst (λ (r : Recorded). length r.files ≤ 1048576) c.tree.ensures c.soundness_law.ensures.few in
    let users = subst (λ (r : KnownPeople). length r.users ≤ 65536) c.people.ensures c.soundness_law-2.ensures.few_users in
    let times = mul-le-mul_right (length s.people.users) files in
    omega (arith, times, users, c.if-before-gt1000000.false, c.asked-before.ensures)
