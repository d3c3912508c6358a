use Rattle.std.proofs.Common.{append_assoc, arith}
use Rattle.std.proofs.lemmas.Grind.{common_steps}
use Rattle.facl_output.specs.Messages.{message}
use Rattle.facl_output.proofs.reserved_message.ReservedMessage.put_no_memory.Goals as goal

pub returns : goal.returns
unfolding message
returns c = simp append_assoc (grind (arith, common_steps))
