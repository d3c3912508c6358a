use Rattle.std.proofs.Common.{length}
use Rattle.acl_rights.proofs.Outside.{IsRaised}
use Rattle.acl_rights.proofs.changed_part.with_path.Given as goal

abbrev pub invariant-loop-top : goal.invariant-loop-top
invariant-loop-top l = IsRaised l.fn.tops.items l.fn.path l.top l.new.items

abbrev pub decreases-loop-top : goal.decreases-loop-top
decreases-loop-top l = length l.top
