use Rattle.std.proofs.Common.{◌≤◌, List, drop, length}
use Rattle.std.specs.List.{sum_by}
use Rattle.acl_names.specs.Paths.{PathOf}
use Rattle.path_classes.specs.ClassedRows.{AllInside}
use Rattle.path_classes.specs.Renewing.{Awaits}
use Rattle.path_classes.proofs.Renewals.{weight}
use Rattle.path_classes.proofs.renewed_searches.renewed_searches.Given as goal

abbrev pub invariant-loop-at : goal.invariant-loop-at
invariant-loop-at l = record {
  awaits : Awaits l.rows l.before.0 l.classes (drop l.at l.queue.waiting.items) l.queue.changed.items;
  within : l.at ≤ length l.queue.waiting.items;
  inside : (tops : List PathOf) → AllInside l.fn.waiting.items tops l.before.1 → AllInside l.queue.waiting.items tops l.before.1 × AllInside l.queue.changed.items tops l.before.1;
}

abbrev pub decreases-loop-at : goal.decreases-loop-at
decreases-loop-at l = sum_by (weight l.before.0) (drop l.at l.queue.waiting.items)
