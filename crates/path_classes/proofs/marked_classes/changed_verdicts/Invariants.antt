use Rattle.std.proofs.Common.{◌≡◌, ℕ, true, false, length, get_or}
use Rattle.path_classes.specs.ClassedRows.{verdicts_at}
use Rattle.path_classes.proofs.marked_classes.changed_verdicts.Given as goal

abbrev pub invariant-loop-label : goal.invariant-loop-label
invariant-loop-label l = record {
  long : length l.marks.items ≡ l.label;
  same : (n : ℕ) → get_or l.marks.items n true ≡ false → verdicts_at l.rows.0 n ≡ verdicts_at l.old.0 n;
}
