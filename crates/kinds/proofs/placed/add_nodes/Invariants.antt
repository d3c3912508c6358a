use Rattle.std.proofs.Common.{take, map}
use Rattle.kinds.specs.Placed.{given, AddsNodes}
use Rattle.kinds.proofs.placed.add_nodes.Given as goal

abbrev pub invariant-loop-node : goal.invariant-loop-node
invariant-loop-node g l = AddsNodes l.fn.kinds (map (given l.fn.kinds) (take l.node-index l.nodes)) l.numbers.items l.kinds
