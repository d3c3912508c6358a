use Rattle.std.proofs.Common.{◌≡◌, take}
use Rattle.std.specs.List.{sum_by}
use Rattle.kinds.specs.Kinds.{count_at}
use Rattle.kinds.proofs.tagged.paths_of.Given as goal

abbrev pub invariant-loop-number : goal.invariant-loop-number
invariant-loop-number g l = l.count ≡ sum_by (count_at l.kinds) (take l.number-index l.numbers)
