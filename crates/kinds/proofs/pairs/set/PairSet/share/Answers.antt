use Rattle.std.proofs.Common.{sym, subst, ◌∙◌}
use Rattle.kinds.specs.PairSets.{AreRising}
use Rattle.kinds.proofs.PairHalves.{same_parts}
use Rattle.kinds.proofs.pairs.set.PairSet.share.Goals as goal

pub invariant_of-result : goal.invariant_of-result
invariant_of-result c = subst AreRising (sym (same_parts (λ r. r.value) (λ b. b) _ _ c.in_ok-clone.ensures.cases.0)) c.self.invariant

pub returns : goal.returns
returns c = same_parts (λ r. r.value) (λ b. b) _ _ c.in_ok-clone.ensures.cases.0 ∙ c.self.view_is
