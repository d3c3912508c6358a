use Rattle.std.proofs.Common.{◌≡◌, ◌+◌, ◌≤◌, true}
use Rattle.kinds.specs.Kinds.{kinds_of}
use Rattle.kinds.specs.Renewed.{renewed_before, counts_before, weight_before}
use Rattle.kinds.proofs.kinds.Kinds.renewed.Given as goal

abbrev pub invariant-loop-number : goal.invariant-loop-number
invariant-loop-number g l = record {
  slots : kinds_of l.slots ≡ (renewed_before (g.R.Renewal.renewed l.renewal) l.self l.number, counts_before l.self l.number);
  exact : g.R.Renewal.is_exact ≡ true → g.R.Renewal.counted l.state ≡ g.R.Renewal.counted l.fn.state + weight_before (g.R.Renewal.weight l.renewal) l.self l.number;
  at_most : g.R.Renewal.counted l.state ≤ g.R.Renewal.counted l.fn.state + weight_before (g.R.Renewal.weight l.renewal) l.self l.number;
}
