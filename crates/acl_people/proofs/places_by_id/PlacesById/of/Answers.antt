use Rattle.std.proofs.Common.{length, drop, ap, sym, ◌∙◌, ◌||◌, ◌-◌, arith}
use Rattle.std.proofs.lemmas.List.{take_all, length-drop}
use Rattle.std.proofs.lemmas.List.Sorted.{list_any-IsPermutation}
use Rattle.acl_entry.specs.Mentions.{is_one_of}
use Rattle.acl_people.specs.Places.{noted_for, is_noted, of_both}
use Rattle.acl_people.proofs.Lists.{run_more}
use Rattle.acl_people.proofs.places_by_id.PlacesById.of.Goals as goal

pub loop-first-init : goal.loop-first-init
loop-first-init c id at =
    ap (λ l. is_one_of at l || is_noted id at c.as_slice-rest.result.now) (c.new-noted.ensures id)
    ∙ ap (is_noted id at) c.as_slice-rest.ensures.value
    ∙ sym (list_any-IsPermutation (of_both id at) c.args.notes.items c.sort_unstable_by_key.new.self.items c.sort_unstable_by_key.ensures.permutation)

pub loop-first-preserved : goal.loop-first-preserved
loop-first-preserved c id at =
    let others = c.in-Some.others.now in
    let count = c.count_of-count.result in
    let rest_is = take_all (length others - count) (drop count others) (let long = length-drop count others in omega (arith, long)) in
    ap (λ l. is_one_of at (noted_for c.add_all.new.self id) || is_noted id at l) rest_is
    ∙ run_more c.in-Some.first.now others count id at c.loop-first.rest.now (is_one_of at (noted_for c.loop-first.noted id))
    (is_one_of at (noted_for c.add_all.new.self id)) (is_noted id at c.args.notes.items)
    c.in-Some.ensures.cases.0 c.count_of-count.ensures.all (c.in_ok-add_all.ensures id at) (c.loop-first.invariant id at)
