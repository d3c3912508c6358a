use Rattle.std.proofs.Common.{◌++◌, flat_map, sym, ap, subst, ◌∙◌}
use Rattle.kinds.specs.PairSets.{AreRising}
use Rattle.kinds.specs.PairParts.{changed}
use Rattle.kinds.proofs.PairChanges.{changed_rising}
use Rattle.kinds.proofs.pairs.branch.BranchPart.push_changed.Goals as goal

pub push_branches-requires : goal.push_branches-requires
push_branches-requires g c =
    subst AreRising
    (sym (ap (flat_map (λ part. g.P.Part.pairs_of part.value)) c.deref.ensures.value
    ∙ c.in_ok-push_changed_in.ensures
    ∙ ap (λ l. flat_map (λ part. g.P.Part.pairs_of part.value) l ++ changed c.args.changes.now (flat_map (λ part. g.P.Part.pairs_of part.value) c.parts-2.result.now)) c.in_ok-parts.ensures.items
    ∙ ap (changed c.args.changes.now) c.parts-2.ensures.all))
    (changed_rising c.args.changes.now c.args.self.now c.requires c.parts-2.ensures.rising)
