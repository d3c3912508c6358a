use Rattle.std.proofs.Common.{ap, subst, ◌∙◌}
use Rattle.std.specs.List.{sum_by}
use Rattle.kinds.specs.Kinds.{KindsOf, count_at}
use Rattle.kinds.specs.Numbered.{Kept, AreSound}
use Rattle.kinds.proofs.TagCounts.{counted_tagged}
use Rattle.kinds.proofs.tagged.TaggedMap.paths_tagged.Goals as goal

pub returns : goal.returns
returns g c =
    let k : KindsOf g.row.N.Denot = c.args.self.now.0 in
    let sound : AreSound k c.args.self.now.1 = subst (λ (m : Kept g.row.N.Denot). AreSound m.0 m.1) c.map.ensures c.kinds-kinds.ensures.sound in
    c.in_ok-count.ensures
    ∙ ap (sum_by (count_at c.kinds-kinds.result.now)) c.deref.ensures.value
    ∙ ap (λ (l : KindsOf g.row.N.Denot). sum_by (count_at l) c.in_ok-numbers.numbers.items) (c.kinds-kinds.ensures.all ∙ ap (λ (m : Kept g.row.N.Denot). m.0) c.map.ensures)
    ∙ counted_tagged g.N.Tagged.tags_of c.args.tags.now k c.in_ok-numbers.numbers.items c.in_ok-numbers.ensures.exact c.args.self.now.1 c.in_ok-numbers.ensures.rising sound
