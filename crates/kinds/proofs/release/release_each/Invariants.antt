use Rattle.std.proofs.Common.{take}
use Rattle.kinds.specs.Counted.{ReleasesEach}
use Rattle.kinds.proofs.release.release_each.Given as goal

abbrev pub invariant-loop-number : goal.invariant-loop-number
invariant-loop-number g l = ReleasesEach l.fn.kinds (take l.number l.counts) l.kinds
