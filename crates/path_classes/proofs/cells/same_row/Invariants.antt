use Rattle.std.proofs.Common.{◌≡◌, true, length, take}
use Rattle.path_classes.proofs.cells.same_row.Given as goal

abbrev pub invariant-loop-at : goal.invariant-loop-at
invariant-loop-at l = record {
  long : length l.some ≡ length l.others;
  same : l.is_same ≡ true → take l.at l.some ≡ take l.at l.others;
  found : l.some ≡ l.others → l.is_same ≡ true;
}
