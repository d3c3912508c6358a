use Rattle.std.proofs.Common.{◌≡◌, ◌==◌, ◌&&◌, ◌||◌, ℕ, not, take}
use Rattle.acl_entry.specs.Mentions.{is_one_of}
use Rattle.acl_people.specs.Places.{noted_for, is_in}
use Rattle.acl_people.proofs.places_by_id.join.Given as goal

abbrev pub invariant-loop-group : goal.invariant-loop-group
invariant-loop-group l = (g at : ℕ) → is_one_of at (noted_for l.noted g)
    ≡ (is_one_of at (noted_for l.fn.noted g) || ((is_one_of g (take l.group-index l.group-items) && not (is_in g l.other)) && (l.place == at)))
