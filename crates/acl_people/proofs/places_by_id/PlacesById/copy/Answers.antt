use Rattle.std.specs.Ordering.{nat_cmp, is_eq}
use Rattle.acl_people.proofs.Lists.{clones_found}
use Rattle.acl_people.proofs.places_by_id.PlacesById.copy.Goals as goal

pub returns : goal.returns
returns c id = clones_found (λ k. is_eq (nat_cmp id k)) c.args.self.now.lists.entries c.in_ok-clone.field-0.entries c.in_ok-clone.ensures.cases
