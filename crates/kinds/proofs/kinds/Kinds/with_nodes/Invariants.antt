use Rattle.std.proofs.Common.{◌≡◌}
use Rattle.kinds.specs.Kinds.{kinds_of}
use Rattle.kinds.specs.Renewed.{renewed_before, counts_before}
use Rattle.kinds.specs.Given.{shared_nodes}
use Rattle.kinds.proofs.kinds.Kinds.with_nodes.Given as goal

abbrev pub invariant-loop-number : goal.invariant-loop-number
invariant-loop-number g l = kinds_of l.slots ≡ (renewed_before (λ x. x) (shared_nodes l.nodes, l.self.1) l.number, counts_before (shared_nodes l.nodes, l.self.1) l.number)
