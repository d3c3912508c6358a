use Rattle.std.proofs.Common.{◌≡◌, ℕ, true, false, length, get_or}
use Rattle.path_classes.specs.PathClasses.{search_at}
use Rattle.path_classes.proofs.marked_classes.changed_searches.Given as goal

abbrev pub invariant-loop-number : goal.invariant-loop-number
invariant-loop-number l = record {
  long : length l.marks.items ≡ l.number;
  same : (n : ℕ) → get_or l.marks.items n true ≡ false → search_at l.after.0 n ≡ search_at l.before.0 n;
}
