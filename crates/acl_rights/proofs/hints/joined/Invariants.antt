use Rattle.std.proofs.Common.{◌+◌, length}
use Rattle.acl_rights.proofs.hints.joined.Given as goal

abbrev pub decreases-loop-hint : goal.decreases-loop-hint
decreases-loop-hint l = length l.left + length l.rest
