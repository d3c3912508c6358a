use Rattle.std.proofs.Common.{◌≡◌, length}
use Rattle.acl_text.specs.Blanks.{trim_front}
use Rattle.acl_text.proofs.fields.trim_front.Given as goal

abbrev pub invariant-loop-rest : goal.invariant-loop-rest
invariant-loop-rest l = trim_front l.rest ≡ trim_front l.bytes

abbrev pub decreases-loop-rest : goal.decreases-loop-rest
decreases-loop-rest l = length l.rest
