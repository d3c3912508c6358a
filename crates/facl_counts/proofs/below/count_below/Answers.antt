use Rattle.std.proofs.Common.{◌≡◌, subst, sym, ap, ◌∙◌}
use Rattle.std.specs.Prelude.{IfOk}
use Rattle.path_classes.specs.Rows.{Rows}
use Rattle.path_map.specs.Below.{from, within}
use Rattle.path_map.specs.Entries.{IsInOrder}
use Rattle.acl_tree.specs.Files.{Recorded}
use Rattle.acl_tree.specs.State.{State}
use Rattle.facl_answers.specs.BothStates.{front}
use Rattle.facl_counts.specs.Sums.{rows_of_kind, rows_with, AreCounted}
use Rattle.facl_counts.proofs.KindRows.{all_within, kind_within}
use Rattle.facl_counts.proofs.below.count_below.Goals as goal

pub returns-in_default : goal.returns-in_default
returns-in_default g c =
    let V = g.J.Judge.verdict_of in
    let given = c.args.verdicts.now in
    let s = given.state.now in
    let top = c.args.top.now in
    let order = subst (λ (t : Recorded). IsInOrder t.files) (c.tree-tree.ensures ∙ ap (λ (known : State). known.tree) c.state.ensures) c.soundness_law.ensures.order in
    let rows : front top c.args.classes.now.1 ≡ within top (rows_of_kind V given.along s c.args.kind) =
    ap (front top) c.requires ∙ all_within V given.along s top order ∙ ap (λ k. within top (rows_of_kind V given.along s k)) (sym c.in_default.is)
    in
    subst (λ (rows : Rows). IfOk c.count_files.result (λ tallies. AreCounted c.count_files.new.classes.0 rows tallies)) rows c.count_files.ensures

pub returns : goal.returns
returns g c =
    let V = g.J.Judge.verdict_of in
    let given = c.args.verdicts.now in
    let s = given.state.now in
    let top = c.args.top.now in
    let kind = c.in-Some.kind in
    let of_state = c.tree-tree.ensures ∙ ap (λ (known : State). known.tree) c.state.ensures in
    let order = subst (λ (t : Recorded). IsInOrder t.files) of_state c.soundness_law.ensures.order in
    let files : c.from-files.result ≡ from top s.tree.files =
    c.from-files.ensures ∙ ap (from top) (c.files_by_path.ensures.all ∙ ap (λ (t : Recorded). t.files) (c.files_whole.ensures ∙ of_state))
    in
    let rows : rows_with kind c.from-files.result (front top c.args.classes.now.1) ≡ within top (rows_of_kind V given.along s c.args.kind) =
    (λ i. rows_with kind (files i) (front top (c.requires i))) ∙ kind_within V given.along s top kind order
    ∙ ap (λ k. within top (rows_of_kind V given.along s k)) (sym c.in-Some.is)
    in
    subst (λ (rows : Rows). IfOk c.count_kind.result (λ tallies. AreCounted c.count_kind.new.classes.0 rows tallies)) rows c.count_kind.ensures
