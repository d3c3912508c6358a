use Rattle.std.proofs.Common.{◌≡◌}
use Rattle.kinds.specs.Renewed.{renewed_before}
use Rattle.kinds.specs.Given.{shared_nodes}
use Rattle.path_map_tests.proofs.nodes.with_its_nodes.Given as goal

abbrev pub invariant-loop-number : goal.invariant-loop-number
invariant-loop-number g l = shared_nodes l.nodes.items ≡ renewed_before (λ x. x) l.map.0 l.number
