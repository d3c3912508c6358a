use Rattle.std.proofs.Common.{sym, subst, ◌∙◌}
use Rattle.kinds.specs.PairSets.{AreRising}
use Rattle.kinds.proofs.PairHalves.{same_parts}
use Rattle.kinds.proofs.pairs.change.branch_of.Goals as goal

pub new-requires-clause-rising : goal.new-requires-clause-rising
new-requires-clause-rising g c = subst AreRising (sym (same_parts (λ r. r.value) g.P.Part.pairs_of _ _ c.in_ok-to_vec.ensures.ok)) c.requires.rising

pub returns : goal.returns
returns g c = c.in_ok-new.ensures.ok ∙ c.new.ensures ∙ same_parts (λ r. r.value) g.P.Part.pairs_of _ _ c.in_ok-to_vec.ensures.ok
