use Rattle.std.proofs.Common.{◌≡◌, length}
use Rattle.path_map.specs.Entries.{IsInOrder}
use Rattle.kinds.specs.Numbered.{entries_by, AreUsed}
use Rattle.acl_tree.specs.Changed.{differing}
use Rattle.acl_tree.proofs.differences.next_differing.Given as goal

abbrev pub invariant-loop-entry : goal.invariant-loop-entry
invariant-loop-entry l = record {
  used : AreUsed l.kinds l.walk.0;
  same : l.other ≡ l.fn.other;
  left : differing l.by_label l.other (entries_by l.kinds l.walk.0) ≡ differing l.fn.by_label l.fn.other (entries_by l.fn.kinds l.fn.walk.0);
  order : IsInOrder l.walk.1;
}

abbrev pub decreases-loop-entry : goal.decreases-loop-entry
decreases-loop-entry l = length l.walk.0
