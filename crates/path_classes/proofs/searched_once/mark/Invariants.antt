use Rattle.std.proofs.Common.{◌≡◌, ◌+◌, ◌-◌, ℕ, false, length, get_or}
use Rattle.path_classes.proofs.searched_once.mark.Given as goal

abbrev pub invariant-loop-marks : goal.invariant-loop-marks
invariant-loop-marks l = (n : ℕ) → get_or l.marks.items n false ≡ get_or l.fn.marks.items n false

abbrev pub decreases-loop-marks : goal.decreases-loop-marks
decreases-loop-marks l = (l.number + 1) - length l.marks.items
