use Rattle.std.proofs.Common.{None, sym, ap, ◌∙◌}
use Rattle.kinds.specs.Kinds.{node_at}
use Rattle.kinds.proofs.Numbers.{none_at}
use Rattle.kinds.proofs.kinds.Kinds.shared_node.Goals as goal

pub returns-in-None : goal.returns-in-None
returns-in-None g c = sym (none_at (λ s. s.0) c.self.inside.slots c.args.number None (sym c.in-None.ensures)) ∙ ap (λ k. node_at k c.args.number) c.self.view_is
