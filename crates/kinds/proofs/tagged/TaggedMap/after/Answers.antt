use Rattle.kinds.proofs.Tags.{same_tags}
use Rattle.kinds.proofs.tagged.TaggedMap.after.Goals as goal

pub after_tags-requires : goal.after_tags-requires
after_tags-requires g c = same_tags g.N.Tagged.tags_of c.args.numbers.items c.args.self.now.0 c.args.map.0 c.requires
