use Rattle.std.proofs.Common.{◌-◌, drop}
use Rattle.path_classes.specs.Renewing.{IsOnce}
use Rattle.path_classes.proofs.searched_once.searched_once.Given as goal

abbrev pub invariant-loop-at : goal.invariant-loop-at
invariant-loop-at l = IsOnce l.rows l.before.0 l.classes l.marks.items (drop l.at l.waiting.items)

abbrev pub decreases-loop-at : goal.decreases-loop-at
decreases-loop-at l = l.most - l.at
