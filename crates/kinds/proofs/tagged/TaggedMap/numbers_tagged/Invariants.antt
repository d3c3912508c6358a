use Rattle.std.proofs.Common.{◌≡◌, ℕ, take}
use Rattle.std.specs.List.{list_any}
use Rattle.kinds.specs.PairSets.{has}
use Rattle.kinds.specs.Tagged.{is_one}
use Rattle.kinds.proofs.tagged.TaggedMap.numbers_tagged.Given as goal

abbrev pub invariant-loop-tag : goal.invariant-loop-tag
invariant-loop-tag g l = (n : ℕ) → is_one n l.numbers.items ≡ list_any (λ t. has (record { first = t; second = n }) l.pairs) (take l.tag-index l.tags)
