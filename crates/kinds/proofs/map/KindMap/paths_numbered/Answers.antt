use Rattle.std.proofs.Common.{ap, ◌∙◌}
use Rattle.std.specs.List.{sum_by}
use Rattle.kinds.specs.Kinds.{KindsOf, count_at}
use Rattle.kinds.proofs.TagCounts.{counted_numbers}
use Rattle.kinds.proofs.map.KindMap.paths_numbered.Goals as goal

pub returns : goal.returns
returns g c =
    c.in_ok-count.ensures
    ∙ ap (λ (l : KindsOf g.row.N.Denot). sum_by (count_at l) c.args.numbers.now) c.kinds-kinds.ensures.all
    ∙ counted_numbers c.args.self.now.0 c.args.numbers.now c.args.self.now.1 c.requires c.kinds-kinds.ensures.sound
