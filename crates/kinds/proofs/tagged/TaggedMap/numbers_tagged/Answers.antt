use Rattle.std.proofs.Common.{ap, ◌∙◌, arith}
use Rattle.std.specs.List.{list_any}
use Rattle.kinds.specs.PairSets.{has}
use Rattle.kinds.proofs.Tags.{tag_more, take_end, numbers_of_tags}
use Rattle.kinds.proofs.tagged.TaggedMap.numbers_tagged.Goals as goal

pub loop-tag-preserved : goal.loop-tag-preserved
loop-tag-preserved g c n =
    tag_more n c.pairs-pairs.result.now c.args.tags.now c.loop-tag.tag-index 0 c.loop-tag.numbers.items c.push_seconds.new.new.items c.loop-tag-test.true
    (c.loop-tag.invariant n) c.in_ok-push_seconds.ensures

pub returns-clause-exact : goal.returns-clause-exact
returns-clause-exact g c n =
    c.rising_numbers.ensures.same n
    ∙ c.loop-tag.invariant n
    ∙ ap (list_any (λ t. has (record { first = t; second = n }) c.pairs-pairs.result.now)) (take_end c.args.tags.now c.loop-tag.tag-index (omega (arith, c.loop-tag-test.false)))
    ∙ numbers_of_tags g.N.Tagged.tags_of c.args.self.now.0 c.pairs-pairs.result.now c.pairs-pairs.ensures n c.args.tags.now
