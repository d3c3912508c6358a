use Rattle.std.proofs.Common.{◌≡◌, map, take}
use Rattle.kinds.proofs.tagged_puts.numbers_of.Given as goal

abbrev pub invariant-loop-entry : goal.invariant-loop-entry
invariant-loop-entry l = l.numbers.items ≡ map (λ e. e.1) (take l.entry-index l.entries)
