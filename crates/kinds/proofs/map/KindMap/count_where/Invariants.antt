use Rattle.std.proofs.Common.{◌≡◌}
use Rattle.std.specs.Prelude.{count_by}
use Rattle.kinds.proofs.PassedCounts.{passes_before}
use Rattle.kinds.proofs.map.KindMap.count_where.Given as goal

abbrev pub invariant-loop-number : goal.invariant-loop-number
invariant-loop-number g l = l.count ≡ count_by (λ e. passes_before (g.T.KindTest.passes l.test) l.self.0 l.number e.1) l.self.1
