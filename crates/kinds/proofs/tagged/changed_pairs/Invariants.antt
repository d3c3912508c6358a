use Rattle.std.proofs.Common.{take}
use Rattle.kinds.specs.Tagged.{AreSettled}
use Rattle.kinds.proofs.tagged.changed_pairs.Given as goal

abbrev pub invariant-loop-number : goal.invariant-loop-number
invariant-loop-number g l = AreSettled g.N.Tagged.tags_of l.before.0 l.after.0 (take l.number-index l.numbers) l.gone.items l.new.items
