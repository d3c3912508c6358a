use Rattle.std.proofs.Common.{◌≡◌, ℕ, ◌<◌, true}
use Rattle.kinds.specs.Tagged.{is_one}
use Rattle.kinds.proofs.tagged.numbers_before.Given as goal

abbrev pub invariant-loop-number : goal.invariant-loop-number
invariant-loop-number l = (n : ℕ) → n < l.number → is_one n l.numbers.items ≡ true
