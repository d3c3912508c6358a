use Rattle.std.proofs.Common.{◌+◌, ◌-◌, length}
use Rattle.facl_answers.specs.Inner.{AreGranted}
use Rattle.facl_answers.proofs.may.is_granted.Given as goal

abbrev pub invariant-loop-request : goal.invariant-loop-request
invariant-loop-request l = AreGranted l.request l.user l.classes.0 l.table.items

abbrev pub decreases-loop-request : goal.decreases-loop-request
decreases-loop-request l = (l.class + 1) - length l.table.items
