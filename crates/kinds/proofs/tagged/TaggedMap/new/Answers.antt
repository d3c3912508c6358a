use Rattle.std.proofs.Common.{sym, subst}
use Rattle.kinds.specs.Tagged.{AreTagsOf}
use Rattle.kinds.proofs.Tags.{no_pairs}
use Rattle.kinds.proofs.tagged.TaggedMap.new.Goals as goal

pub invariant_of-result : goal.invariant_of-result
invariant_of-result g c =
    subst (AreTagsOf g.N.Tagged.tags_of c.in_ok-map.map.0) (sym c.new-pairs.ensures)
    (no_pairs g.N.Tagged.tags_of c.in_ok-map.map.0 c.in_ok-map.map.1 c.kinds-kinds.ensures.sound c.in_ok-map.ensures)
