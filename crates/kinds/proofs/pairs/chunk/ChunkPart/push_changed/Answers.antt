use Rattle.std.proofs.Common.{sym, ap, subst, ◌∙◌}
use Rattle.kinds.specs.PairSets.{AreRising}
use Rattle.kinds.specs.PairParts.{changed}
use Rattle.kinds.proofs.PairChanges.{changed_rising}
use Rattle.kinds.proofs.pairs.chunk.ChunkPart.push_changed.Goals as goal

pub push_chunks-requires : goal.push_chunks-requires
push_chunks-requires c =
    subst AreRising (sym (c.deref.ensures.value ∙ c.in_ok-pairs.ensures ∙ ap (changed c.args.changes.now) c.pairs.ensures.all))
    (changed_rising c.args.changes.now c.args.self.now c.requires c.pairs.ensures.rising)
