use Rattle.std.proofs.Common.{◌==◌, ◌&&◌, ◌||◌, sym, ap, ◌∙◌}
use Rattle.std.specs.FinSet as sets
use Rattle.std.specs.FinSet.{contains-from_list_nat}
use Rattle.acl_people.specs.Places.{is_in}
use Rattle.acl_people.proofs.WhoIsWhere.{user_more}
use Rattle.acl_people.proofs.places_by_id.notes_by_group.Goals as goal

-- one user more
pub loop-place-preserved : goal.loop-place-preserved
loop-place-preserved c group at =
    let i = c.loop-place.place in
    let user = c.index-users-place.result in
    let is_of = sym (contains-from_list_nat c.groups.result.now group) ∙ ap (λ gs. sets.contains gs group) (c.groups.ensures.all ∙ ap (λ u. u.groups) c.deref.ensures) in
    c.in_ok-note_groups.ensures group at
    ∙ (λ j. c.loop-place.invariant group at j || (is_of j && (i == at)))
    ∙ sym (user_more (λ s. s.value) (is_in group) c.args.users.now i at user c.loop-place-test.true c.index-users-place.is)
