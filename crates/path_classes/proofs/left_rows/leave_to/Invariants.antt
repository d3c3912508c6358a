use Rattle.std.proofs.Common.{◌≡◌, ◌++◌, take, drop, length}
use Rattle.path_classes.specs.NumberedRows.{left_to}
use Rattle.path_classes.proofs.left_rows.leave_to.Given as goal

abbrev pub invariant-loop-at : goal.invariant-loop-at
invariant-loop-at l = record {
  long : length l.cells ≡ length l.initial.cells;
  rest : drop l.at l.cells ≡ drop l.at l.initial.cells;
  done : take l.at l.cells ++ left_to (drop l.at l.through) (drop l.at l.initial.cells) ≡ left_to l.through l.initial.cells;
}
