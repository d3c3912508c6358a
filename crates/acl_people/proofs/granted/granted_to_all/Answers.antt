use Rattle.std.proofs.Common.{◌≡◌, length, map, arith, sym, ◌∙◌, if◌then◌else◌, ℕ}
use Rattle.acl_entry.specs.Person.{Person}
use Rattle.acl_people.specs.Places.{has_id}
use Rattle.acl_people.specs.Cases.{is_matched, by_groups, by_name_or, of_others}
use Rattle.acl_people.proofs.AtPlaces.{done_is, same_for_all}
use Rattle.acl_people.proofs.ByEntries.{rights_is}
use Rattle.acl_people.proofs.granted.granted_to_all.Goals as goal

-- each step has put one case of the check before those that were there
pub returns : goal.returns
returns c =
    let label = c.args.label.now in
    let users = c.args.users.now in
    let others =
    c.fill.ensures.after (λ y is. is) ∙ same_for_all c.unmasked-others.result (length c.args.row.now) users (sym c.requires) ∙ (λ j. map (λ u. c.unmasked-others.ensures j) users) in
    let by_class : Person → ℕ = λ u. if is_matched label u then by_groups label u else of_others label in
    let named = c.put_named.ensures by_class (c.add_groups.ensures (λ u. of_others label) (c.clear_groups.ensures (λ u. of_others label) others)) in
    let long : length c.put.new.row ≡ length users = omega (arith, c.requires) in
    done_is (λ _. c.unmasked-owner.result) (has_id label.owner)
    (λ u. by_name_or label u (by_class u)) users c.of_id.result.now c.put_named.new.row c.put.new.row c.of_id.ensures long named c.put.ensures
    ∙ (λ j. map (λ u. if has_id label.owner u then c.unmasked-owner.ensures j else by_name_or label u (by_class u)) users)
    ∙ (λ j. map (λ u. rights_is label u j) users)
