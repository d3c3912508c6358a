use Rattle.std.proofs.Common.{◌≡◌, length, arith, ap, map, ◌∙◌, if◌then◌else◌}
use Rattle.acl_entry.specs.Check.{byte_of}
use Rattle.acl_entry.specs.Perms.{Perms, contains, none}
use Rattle.acl_people.specs.Cases.{granted_by}
use Rattle.acl_people.specs.Places.{is_in}
use Rattle.acl_people.proofs.AtPlaces.{done_is}
use Rattle.acl_people.proofs.granted.put_members.Goals as goal

pub returns : goal.returns
returns c = λ f was.
    let users = c.args.users.now in
    let group = c.args.group in
    let long : length c.put.new.row ≡ length users = omega (arith, c.requires) in
    let granted : c.within.result ≡ granted_by none = c.within.ensures ∙ ap (λ (s : Perms). byte_of (contains s)) c.none.ensures in
    done_is (λ _. c.within.result) (is_in group) f users c.of_group.result.now c.args.row.now c.put.new.row c.of_group.ensures long was c.put.ensures
    ∙ (λ j. map (λ u. if is_in group u then granted j else f u) users)
