use Rattle.std.proofs.Common.{◌≡◌, map, take}
use Rattle.kinds.specs.Passing.{passed}
use Rattle.kinds.proofs.passing.table_of.Given as goal

abbrev pub invariant-loop-number : goal.invariant-loop-number
invariant-loop-number g l = l.table.items ≡ map (passed (g.T.KindTest.passes l.test)) (take l.number l.kinds.0)
