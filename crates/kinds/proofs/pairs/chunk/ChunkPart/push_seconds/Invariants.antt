use Rattle.std.proofs.Common.{◌≡◌, ◌++◌, take}
use Rattle.kinds.specs.PairSets.{seconds_of}
use Rattle.kinds.proofs.pairs.chunk.ChunkPart.push_seconds.Given as goal

abbrev pub invariant-loop-pair : goal.invariant-loop-pair
invariant-loop-pair l = l.new.items ≡ l.fn.new.items ++ seconds_of l.first (take l.pair-index l.pair-items)
