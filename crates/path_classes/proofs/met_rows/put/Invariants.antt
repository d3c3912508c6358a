use Rattle.std.proofs.Common.{◌≡◌, ◌+◌, ◌-◌, ℕ, None, length, get_or}
use Rattle.path_classes.proofs.met_rows.put.Given as goal

abbrev pub invariant-loop-table : goal.invariant-loop-table
invariant-loop-table l = (n : ℕ) → get_or l.table.items n None ≡ get_or l.fn.table.items n None

abbrev pub decreases-loop-table : goal.decreases-loop-table
decreases-loop-table l = (l.number + 1) - length l.table.items
