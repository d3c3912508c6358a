use Rattle.std.proofs.Common.{◌≡◌, ◌++◌, length, flat_map}
use Rattle.kinds.specs.PairSets.{AreRising}
use Rattle.kinds.proofs.pairs.change.push_chunks.Given as goal

abbrev pub invariant-loop-rest : goal.invariant-loop-rest
invariant-loop-rest l = record {
  rising : AreRising l.rest;
  all : flat_map (λ c. c.value) l.new.items ++ l.rest ≡ flat_map (λ c. c.value) l.fn.new.items ++ l.pairs;
}

abbrev pub decreases-loop-rest : goal.decreases-loop-rest
decreases-loop-rest l = length l.rest
