use Rattle.std.proofs.Common.{◌≡◌, ◌≤◌, ℕ, length}
use Rattle.kinds.specs.Kinds.{count_at}
use Rattle.kinds.proofs.kinds.Kinds.used_end.Given as goal

abbrev pub invariant-loop-end : goal.invariant-loop-end
invariant-loop-end g l = record {
  within : l.end ≤ length l.self.0;
  past : (n : ℕ) → l.end ≤ n → count_at l.self n ≡ 0;
}

abbrev pub decreases-loop-end : goal.decreases-loop-end
decreases-loop-end g l = l.end
