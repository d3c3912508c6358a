use Rattle.std.proofs.Common.{◌==◌, ◌&&◌, ◌||◌, not, sym, ap, ◌∙◌, arith}
use Rattle.std.specs.FinSet as sets
use Rattle.std.specs.FinSet.{contains-from_list_nat}
use Rattle.std.proofs.lemmas.List.{take_all}
use Rattle.acl_entry.specs.Mentions.{is_one_of}
use Rattle.acl_people.specs.Places.{is_in, noted_for}
use Rattle.acl_people.proofs.places_by_id.join.Goals as goal

pub returns : goal.returns
returns c g at =
    let groups = c.groups-group-items.result.now in
    let is_of = ap (is_one_of g) (take_all c.loop-group.group-index groups (omega arith)) ∙ sym (contains-from_list_nat groups g) ∙ ap (λ gs. sets.contains gs g) c.groups-group-items.ensures.all in
    c.loop-group.invariant g at
    ∙ ap (λ b. is_one_of at (noted_for c.args.noted.now g) || ((b && not (is_in g c.args.other.now)) && (c.args.place == at))) is_of
