use Rattle.std.proofs.Common.{◌≡◌, ◌+◌, length}
use Rattle.facl_tools.specs.Operands.{paths_from}
use Rattle.facl_tools.proofs.Listed.{after_those}
use Rattle.facl_tools.proofs.operands.paths_of.Given as goal

abbrev pub invariant-loop-rest : goal.invariant-loop-rest
invariant-loop-rest l = after_those l.paths.items (paths_from (length l.paths.items + 1) l.rest) ≡ paths_from 1 l.fn.words

abbrev pub decreases-loop-rest : goal.decreases-loop-rest
decreases-loop-rest l = length l.rest
