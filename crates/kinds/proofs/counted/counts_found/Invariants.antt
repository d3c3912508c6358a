use Rattle.std.proofs.Common.{take}
use Rattle.kinds.specs.Counted.{CountsFound}
use Rattle.kinds.proofs.counted.counts_found.Given as goal

abbrev pub invariant-loop-one : goal.invariant-loop-one
invariant-loop-one l = CountsFound l.fn.numbers (take l.one-index l.found) l.counts.items
