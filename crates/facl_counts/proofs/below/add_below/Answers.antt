use Rattle.std.proofs.Common.{ℕ, List, Vec, Global, subst, sym, ap, ◌++◌, ◌∙◌}
use Rattle.std.specs.Prelude.{OnOk}
use Rattle.path_classes.specs.Rows.{Rows}
use Rattle.path_map.specs.Below.{within}
use Rattle.facl_counts.specs.Sums.{after_tallies, rows_of_kind, AreSums}
use Rattle.facl_counts.proofs.KindRows.{all_at_root}
use Rattle.facl_counts.proofs.Summing.{sums_more}
use Rattle.facl_counts.proofs.below.add_below.Goals as goal

pub returns : goal.returns
returns g c names seen were =
    let given = c.args.verdicts.now in
    let q = c.args.asked.now.request in
    let rows : Rows = within c.args.top.now (rows_of_kind g.J.Judge.verdict_of given.along given.state.now c.args.asked.now.kind) in
    let classes = c.count_below.new.classes in
    subst (AreSums q (seen ++ rows) names)
    (sym (c.in_ok-add_tallies.ensures ∙ ap (λ ts. after_tallies classes.0 q ts c.args.sums.now) c.as_slice.ensures))
    (sums_more q names classes.0 seen rows c.in_ok-tallies.tallies c.args.sums.now c.in_ok-tallies.ensures were)

pub returns-then-are_all : goal.returns-then-are_all
returns-then-are_all g c =
    let given = c.args.verdicts.now in
    let q = c.args.asked.now.request in
    subst (λ (rows : Rows). OnOk c.add_all.result ((names : List (Vec ℕ Global)) (seen : Rows) → AreSums q seen names c.args.sums.now → AreSums q (seen ++ rows) names c.add_all.new.sums))
    (all_at_root g.J.Judge.verdict_of given.along given.state.now c.args.top.now c.args.asked.now.kind (c.are_all.ensures.root c.if-are_all.true) (c.are_all.ensures.kind c.if-are_all.true))
    c.add_all.ensures
