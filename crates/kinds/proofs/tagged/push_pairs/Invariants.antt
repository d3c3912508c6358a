use Rattle.std.proofs.Common.{◌≡◌, ◌++◌, take}
use Rattle.kinds.specs.PairSets.{tagged_pairs}
use Rattle.kinds.proofs.tagged.push_pairs.Given as goal

abbrev pub invariant-loop-tag : goal.invariant-loop-tag
invariant-loop-tag l = l.pairs.items ≡ l.fn.pairs.items ++ tagged_pairs (take l.tag-index l.tags) l.number
