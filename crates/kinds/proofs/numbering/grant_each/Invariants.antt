use Rattle.std.proofs.Common.{take}
use Rattle.kinds.specs.Counted.{GrantsEach}
use Rattle.kinds.proofs.numbering.grant_each.Given as goal

abbrev pub invariant-loop-number : goal.invariant-loop-number
invariant-loop-number g l = GrantsEach l.fn.kinds (take l.number l.counts) l.kinds
