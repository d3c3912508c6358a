use Rattle.std.proofs.Common.{subst, sym, ap, take, ◌∙◌}
use Rattle.path_classes.specs.ClassesWithin.{paths_seen, inside}
use Rattle.path_classes.specs.Rows.{Rows}
use Rattle.acl_tree.specs.Files.{Recorded}
use Rattle.acl_tree.specs.State.{State}
use Rattle.path_map.specs.Entries.{IsInOrder}
use Rattle.std.proofs.lemmas.List.{take_all}
use Rattle.facl_counts.specs.Sums.{rows_of_kind, AreSums}
use Rattle.facl_counts.proofs.KindRows.{kind_order}
use Rattle.facl_counts.proofs.OperandTops.{none_inside, one_inside}
use Rattle.facl_counts.proofs.Summing.{no_sums_are}
use Rattle.facl_counts.proofs.below.sums_below.Goals as goal

pub loop-top-init : goal.loop-top-init
loop-top-init g c =
    let all = rows_of_kind g.J.Judge.verdict_of c.args.verdicts.now.along c.args.verdicts.now.state.now c.args.asked.now.kind in
    subst (λ (rows : Rows). AreSums c.args.asked.now.request rows c.args.names.now c.in_ok-sums.sums) (sym (none_inside c.args.tops.now all))
    (no_sums_are c.args.asked.now.request c.args.names.now c.in_ok-sums.sums c.in_ok-sums.ensures)

pub loop-top-preserved : goal.loop-top-preserved
loop-top-preserved g c =
    let V = g.J.Judge.verdict_of in
    let given = c.args.verdicts.now in
    let all = rows_of_kind V given.along given.state.now c.args.asked.now.kind in
    let order = subst (λ (t : Recorded). IsInOrder t.files) (c.tree.ensures ∙ ap (λ (known : State). known.tree) c.state.ensures) c.soundness_law.ensures.order in
    subst (λ (rows : Rows). AreSums c.args.asked.now.request rows c.args.names.now c.add_below.new.sums)
    (one_inside c.args.tops.now c.loop-top.top-index c.top-item.result c.loop-top-test.true c.top-item.is c.requires all (kind_order V given.along given.state.now c.args.asked.now.kind order))
    (c.in_ok-add_below.ensures c.args.names.now (inside (paths_seen (take c.loop-top.top-index c.args.tops.now)) all) c.loop-top.invariant)

pub returns : goal.returns
returns g c =
    let all = rows_of_kind g.J.Judge.verdict_of c.args.verdicts.now.along c.args.verdicts.now.state.now c.args.asked.now.kind in
    subst (λ tops. AreSums c.args.asked.now.request (inside (paths_seen tops) all) c.args.names.now c.loop-top.sums)
    (take_all c.loop-top.top-index c.args.tops.now c.loop-top-test.false) c.loop-top.invariant
