use Rattle.std.proofs.Common.{◌≡◌, map, filter, IfOk, subst}
use Rattle.kinds.specs.Numbered.{Kept, entries_in}
use Rattle.kinds.proofs.tagged.TaggedMap.paths_where.Goals as goal

pub returns : goal.returns
returns g c =
    subst (λ (m : Kept g.row.N.Denot). IfOk c.paths_where.result (λ paths. map (λ p. p.now) paths.items ≡ map (λ e. e.0) (filter (λ e. g.T.KindTest.passes c.args.test.now e.1) (entries_in m))))
    c.map.ensures c.paths_where.ensures
