use Rattle.std.proofs.Common.{◌≡◌, Bool, List, false, map, get_or, ap, ◌∙◌}
use Rattle.std.specs.Prelude.{filter}
use Rattle.std.proofs.lemmas.Result.{IfOk-weaker}
use Rattle.kinds.specs.Kinds.{KindsOf}
use Rattle.kinds.specs.Numbered.{Numbers, Kept}
use Rattle.kinds.specs.Passing.{passed}
use Rattle.kinds.proofs.PassingPaths.{paths_passing}
use Rattle.kinds.proofs.map.KindMap.paths_where.Goals as goal

pub returns : goal.returns
returns g c =
    let test = g.T.KindTest.passes c.args.test.now in
    let kept : Kept g.row.N.Denot = c.args.self.now in
    let table : c.deref.result.now ≡ map (passed test) kept.0.0 =
    c.deref.ensures.value ∙ c.in_ok-table.ensures ∙ ap (λ (k : KindsOf g.row.N.Denot). map (passed test) k.0) c.kinds.ensures.all in
    IfOk-weaker c.paths_of.result _ _
    (λ paths is.
    is
    ∙ ap (λ (l : List Bool). map (λ e. e.0) (filter (λ e. get_or l e.1 false) c.numbers.result.now)) table
    ∙ ap (λ (ns : Numbers). map (λ e. e.0) (filter (λ e. get_or (map (passed test) kept.0.0) e.1 false) ns)) c.numbers.ensures.all
    ∙ paths_passing test kept.0 kept.1 c.numbers.ensures.sound.used)
    c.paths_of.ensures
