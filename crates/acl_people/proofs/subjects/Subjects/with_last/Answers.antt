use Rattle.std.proofs.Common.{◌==◌, ◌&&◌, ◌||◌, length, sym, ap, ◌∙◌}
use Rattle.acl_entry.specs.Mentions.{is_one_of}
use Rattle.acl_people.specs.Places.{has_id, is_in, noted_for, passes_at}
use Rattle.acl_people.proofs.WhoIsWhere.{last_is}
use Rattle.acl_people.proofs.subjects.Subjects.with_last.Goals as goal

pub found_by-requires-clause-ids : goal.found_by-requires-clause-ids
found_by-requires-clause-ids c = λ id at.
    (λ j. is_one_of at (noted_for (c.in_ok-new.ensures.ok j) id))
    ∙ last_is (λ s. s.value) (has_id id) c.as_slice-users.result.now c.in_ok-all.all.items c.push.new.self.items c.args.user at
    (is_one_of at (noted_for c.ids.result.now.value id)) (is_one_of at (noted_for c.add.new.self id))
    (c.in_ok-all.ensures) c.in_ok-push.ensures.items (c.ids.ensures id at ∙ ap (λ us. passes_at (has_id id) us at) (sym c.as_slice-users.ensures))
    (c.in_ok-add.ensures id at
    ∙ (λ j. is_one_of at ((c.in_ok-by_id.ensures id ∙ (λ k. noted_for (c.deref.ensures k) id)) j)
    || (((c.uid.ensures ∙ ap (λ u. u.uid) c.deref-2.ensures) j == id) && (length c.as_slice-users.result.now == at))))

pub found_by-requires-clause-groups : goal.found_by-requires-clause-groups
found_by-requires-clause-groups c = λ g at.
    last_is (λ s. s.value) (is_in g) c.as_slice-users.result.now c.in_ok-all.all.items c.push.new.self.items c.args.user at
    (is_one_of at (noted_for c.groups.result.now g)) (is_one_of at (noted_for c.in_ok-by_group.by_group g))
    (c.in_ok-all.ensures) c.in_ok-push.ensures.items (c.groups.ensures g at ∙ ap (λ us. passes_at (is_in g) us at) (sym c.as_slice-users.ensures))
    (c.in_ok-by_group.ensures g at ∙ (λ j. is_one_of at (noted_for c.groups.result.now g) || (is_in g (c.deref-3.ensures j) && (length c.as_slice-users.result.now == at))))
