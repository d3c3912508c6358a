use Rattle.std.proofs.Common.{sym, ap, subst, ◌∙◌}
use Rattle.kinds.specs.Tagged.{is_one, AreTagsOf}
use Rattle.kinds.proofs.tagged.TaggedMap.with_same_tags.Goals as goal

pub invariant_of-result : goal.invariant_of-result
invariant_of-result g c =
    subst (AreTagsOf g.N.Tagged.tags_of c.args.map.0) (sym c.in_ok-pairs.ensures) (λ p. c.pairs.ensures p ∙ ap (is_one p.first) (sym (c.requires p.second)))
