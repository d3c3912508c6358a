use Rattle.std.proofs.Common.{◌≡◌, ◌++◌, length, flat_map}
use Rattle.kinds.specs.PairSets.{AreRising}
use Rattle.kinds.proofs.pairs.change.push_branches.Given as goal

abbrev pub invariant-loop-rest : goal.invariant-loop-rest
invariant-loop-rest g l = record {
  rising : AreRising (flat_map (λ c. g.P.Part.pairs_of c.value) l.rest);
  all : flat_map (λ b. b.value) l.new.items ++ flat_map (λ c. g.P.Part.pairs_of c.value) l.rest ≡ flat_map (λ b. b.value) l.fn.new.items ++ flat_map (λ c. g.P.Part.pairs_of c.value) l.parts;
}

abbrev pub decreases-loop-rest : goal.decreases-loop-rest
decreases-loop-rest g l = length l.rest
