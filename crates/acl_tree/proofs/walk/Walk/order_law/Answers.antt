use Rattle.std.proofs.Common.{ap, subst}
use Rattle.path_map.specs.Entries.{IsInOrder}
use Rattle.kinds.specs.Numbered.{Numbers}
use Rattle.acl_tree.proofs.Outside.{order_left}
use Rattle.acl_tree.proofs.walk.Walk.order_law.Goals as goal

pub returns : goal.returns
returns c =
    subst (λ (l : Numbers). IsInOrder l) (ap (λ (w : Numbers × Numbers). w.1) c.self.view_is) (order_left c.self.inside.rest c.self.inside.numbers.now c.order_law.ensures c.self.invariant.0)
