use Rattle.std.proofs.Common.{◌≡◌, length, map, arith, sym, ◌∙◌, if◌then◌else◌, Bool, true, false, refl}
use Rattle.acl_entry.specs.Check.{byte_of}
use Rattle.acl_entry.specs.Linux.{check_mode}
use Rattle.acl_entry.specs.Lists.{perm_at}
use Rattle.acl_entry.specs.Perms.{Perms, contains, none}
use Rattle.acl_entry.specs.Person.{Person}
use Rattle.acl_entry.specs.declared.label.Label.{Label}
use Rattle.acl_entry.specs.declared.entry.Key.TheVariants.{Owner, Other}
use Rattle.acl_people.specs.Cases.{granted_by, of_others, of_owner}
use Rattle.acl_people.specs.Places.{has_id, is_in}
use Rattle.acl_people.proofs.AtPlaces.{done_is, same_for_all}
use Rattle.acl_people.proofs.granted.granted_to_all_by_mode.Goals as goal

-- the three cases of a mode, for all requests at once
cases_are : (owner other : Perms) (is_owner is_member : Bool)
    → (if is_owner then granted_by owner else (if is_member then granted_by none else granted_by other))
    ≡ byte_of (λ q. if is_owner then contains owner q else (if is_member then contains none q else contains other q))
cases_are owner other true is_member = refl
cases_are owner other false true = refl
cases_are owner other false false = refl

mode_is : (f : Label) (u : Person) → (if has_id f.owner u then of_owner f else (if is_in f.group u then granted_by none else of_others f)) ≡ byte_of (check_mode u f)
mode_is f u = cases_are (perm_at f.acl Owner) (perm_at f.acl Other) (has_id f.owner u) (is_in f.group u)

pub returns : goal.returns
returns c =
    let label = c.args.label.now in
    let users = c.args.users.now in
    let others =
    c.fill.ensures.after (λ y is. is) ∙ same_for_all c.unmasked-others.result (length c.args.row.now) users (sym c.requires) ∙ (λ j. map (λ u. c.unmasked-others.ensures j) users) in
    let members = c.put_members.ensures (λ u. of_others label) others in
    let long : length c.put.new.row ≡ length users = omega (arith, c.requires) in
    done_is (λ _. c.unmasked-owner.result) (has_id label.owner) (λ u. if is_in label.group u then granted_by none else of_others label) users
    c.of_id.result.now c.put_members.new.row c.put.new.row c.of_id.ensures long members c.put.ensures
    ∙ (λ j. map (λ u. if has_id label.owner u then c.unmasked-owner.ensures j else (if is_in label.group u then granted_by none else of_others label)) users)
    ∙ (λ j. map (λ u. mode_is label u j) users)
