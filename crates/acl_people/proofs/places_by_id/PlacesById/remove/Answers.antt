use Rattle.std.proofs.Common.{◌==◌, not, filter, ap, ◌∙◌}
use Rattle.acl_people.specs.Places.{noted_for}
use Rattle.acl_people.proofs.Lists.{one_removed}
use Rattle.acl_people.proofs.places_by_id.PlacesById.remove.Goals as goal

pub returns : goal.returns
returns c q at =
    one_removed c.args.id q c.args.place at c.in_ok-places.places.items (noted_for c.args.self.now c.args.id) (noted_for c.args.self.now q) (noted_for c.put.new.self q)
    (c.in_ok-places.ensures ∙ ap (filter (λ x. not (x == c.args.place))) c.get.ensures)
    (λ same. ap (noted_for c.args.self.now) same)
    (c.in_ok-put.ensures q)
