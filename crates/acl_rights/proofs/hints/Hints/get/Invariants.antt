use Rattle.std.proofs.Common.{length}
use Rattle.acl_rights.proofs.hints.Hints.get.Given as goal

abbrev pub decreases-loop-block : goal.decreases-loop-block
decreases-loop-block l = length l.rest
