use Rattle.std.proofs.Common.{◌≡◌, ◌++◌, drop}
use Rattle.kinds.specs.PairSets.{AreRising}
use Rattle.kinds.specs.PairParts.{changed}
use Rattle.kinds.proofs.pairs.chunk.changed_pairs.Given as goal

abbrev pub invariant-loop-change : goal.invariant-loop-change
invariant-loop-change l = record {
  rising : AreRising l.rest;
  all : l.new.items ++ changed (drop l.change-index l.changes) l.rest ≡ changed l.changes l.pairs;
}
