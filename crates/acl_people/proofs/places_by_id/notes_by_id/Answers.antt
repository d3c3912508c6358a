use Rattle.std.proofs.Common.{◌==◌, ◌&&◌, ◌||◌, sym, ap, ◌∙◌}
use Rattle.acl_people.specs.Places.{has_id, is_noted}
use Rattle.acl_people.proofs.Lists.{noted_end}
use Rattle.acl_people.proofs.WhoIsWhere.{user_more}
use Rattle.acl_people.proofs.places_by_id.notes_by_id.Goals as goal

-- one user more
pub loop-place-preserved : goal.loop-place-preserved
loop-place-preserved c id at =
    let i = c.loop-place.place in
    let before = c.loop-place.notes.items in
    let user = c.index-users-place.result in
    let uid_is = c.uid.ensures ∙ ap (λ u. u.uid) c.deref.ensures in
    ap (is_noted id at) c.in_ok-push.ensures.items
    ∙ noted_end id at before (record { id = c.uid.result; place = i })
    ∙ (λ j. c.loop-place.invariant id at j || ((uid_is j == id) && (i == at)))
    ∙ sym (user_more (λ s. s.value) (has_id id) c.args.users.now i at user c.loop-place-test.true c.index-users-place.is)
