use Rattle.path_classes.specs.ClassesWithin.{AreTops}
use Rattle.acl_rights.proofs.Outside.{HoldsRead}
use Rattle.acl_rights.proofs.changed_part.with_files.Given as goal

abbrev pub invariant-loop-left : goal.invariant-loop-left
invariant-loop-left l = AreTops l.new.items × HoldsRead l.new.items l.fn.tops.items l.fn.files l.rest

abbrev pub decreases-loop-left : goal.decreases-loop-left
decreases-loop-left l = l.left
