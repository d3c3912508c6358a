use Rattle.std.proofs.Common.{◌++◌, ◌∷◌, [], true, filter, ap, subst, ◌∙◌}
use Rattle.acl_names.specs.Paths.{PathOf}
use Rattle.acl_tree.specs.Operands.{is_file}
use Rattle.facl_output.proofs.Loops.{item_added}
use Rattle.facl_counts.specs.BelowText.{folder_lines}
use Rattle.facl_counts.specs.Sums.{rows_of_kind, AreSums}
use Rattle.facl_counts.proofs.FolderLines.{folder_lines_are}
use Rattle.facl_counts.proofs.folders.push_folders.Goals as goal

-- the tops of `sums_below` are one path: what is inside it is what `is_file true (path ∷ [])` means, by definition
pub loop-folder-preserved : goal.loop-folder-preserved
loop-folder-preserved g c =
    let V = g.J.Judge.verdict_of in
    let given = c.args.verdicts.now in
    let which = c.args.which.now in
    let folder = c.folder-item.result in
    let line = folder_lines V given.along given.state.now which.asked.request which.asked.kind which.user in
    let text = c.loop-folder.text.items in
    let rows = rows_of_kind V given.along given.state.now which.asked.kind in
    let are =
    subst (λ (p : PathOf). AreSums which.asked.request (filter (λ row. is_file true (p ∷ []) row.0) rows) c.args.names.now c.in_ok-sums.sums) c.path.ensures c.in_ok-sums.ensures
    in
    let wrote = c.in_ok-push_folder_sums.ensures
    ∙ ap (λ more. text ++ more)
    (folder_lines_are V given.along given.state.now which.asked.request which.asked.kind folder (λ n. n.items) c.args.names.now c.in_ok-sums.sums which.user c.requires are)
    in
    item_added line c.args.folders.now c.args.text.now.items c.loop-folder.folder-index folder folder text c.push_folder_sums.new.text.items c.loop-folder-test.true c.folder-item.is
    c.loop-folder.invariant wrote
