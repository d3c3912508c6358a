use Rattle.std.proofs.Common.{◌==◌, set, sym, ap, ◌∙◌}
use Rattle.std.proofs.lemmas.List.{map-set}
use Rattle.acl_entry.specs.Mentions.{is_one_of}
use Rattle.acl_people.specs.Places.{has_id, is_in, noted_for, passes_at, after_move}
use Rattle.acl_people.proofs.WhoIsWhere.{moved_is, passes_at-same, uid_within, uid_is, here_is}
use Rattle.acl_people.proofs.subjects.Subjects.with.Goals as goal

pub found_by-requires-clause-ids : goal.found_by-requires-clause-ids
found_by-requires-clause-ids c = λ id at.
    let users = c.args.self.now in
    let i = c.args.at in
    let user = c.args.user.value in
    let old = c.index-users-at.result.value in
    let lt = uid_within users i user.uid c.requires in
    let is = here_is (λ s. s.value) c.as_slice-users.result.now users i c.index-users-at.result c.as_slice-users.ensures lt c.index-users-at.is in
    let set_is = map-set (λ s. s.value) c.in_ok-all.all.items i c.args.user ∙ ap (λ us. set us i user) (c.in_ok-all.ensures ∙ c.as_slice-users.ensures) in
    (λ j. is_one_of at (noted_for (c.in_ok-clone.ensures.cases j) id))
    ∙ c.ids.ensures id at
    ∙ sym (ap (λ us. passes_at (has_id id) us at) set_is ∙ passes_at-same (has_id id) users old user i at lt is (ap (λ n. n == id) (uid_is users old i user.uid c.requires is)))

pub found_by-requires-clause-groups : goal.found_by-requires-clause-groups
found_by-requires-clause-groups c = λ g at.
    let users = c.args.self.now in
    let i = c.args.at in
    let user = c.args.user.value in
    let old = c.index-users-at.result.value in
    let lt = uid_within users i user.uid c.requires in
    let is = here_is (λ s. s.value) c.as_slice-users.result.now users i c.index-users-at.result c.as_slice-users.ensures lt c.index-users-at.is in
    let set_is = map-set (λ s. s.value) c.in_ok-all.all.items i c.args.user ∙ ap (λ us. set us i user) (c.in_ok-all.ensures ∙ c.as_slice-users.ensures) in
    moved_is g users old user i at (is_one_of at (noted_for c.groups.result.now g)) (is_one_of at (noted_for c.in_ok-by_group.by_group g)) lt is (c.groups.ensures g at)
    (c.in_ok-by_group.ensures g at ∙ (λ j. after_move g (c.deref.ensures j) (c.deref-2.ensures j) (i == at) (is_one_of at (noted_for c.groups.result.now g))))
    ∙ sym (ap (λ us. passes_at (is_in g) us at) set_is)

pub returns : goal.returns
returns c =
    c.in_ok-all-2.ensures
    ∙ map-set (λ s. s.value) c.in_ok-all.all.items c.args.at c.args.user ∙ ap (λ us. set us c.args.at c.args.user.value) (c.in_ok-all.ensures ∙ c.as_slice-users.ensures)
