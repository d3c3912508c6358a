use Rattle.std.proofs.Common.{◌≡◌, ◌∷◌, [], length, map, subst, arith}
use Rattle.std.proofs.lemmas.Grind.{common_steps}
use Rattle.path_map.specs.Entries.{seen}
use Rattle.kinds.specs.Numbered.{Kept}
use Rattle.path_classes.specs.declared.label_row.LabelRow.{LabelRow}
use Rattle.path_classes.specs.ClassedRows.{PutsRows}
use Rattle.path_classes.proofs.RelabelledFile.{puts_row, one_item, no_item}
use Rattle.path_classes.proofs.relabelled_file.relabelled_alone.Goals as goal

pub relabelled_file-requires-clause-puts : goal.relabelled_file-requires-clause-puts
relabelled_file-requires-clause-puts g c =
    let old : Kept LabelRow = c.args.rows.now.before.now in
    let rows : Kept LabelRow = c.args.rows.now.after.now in
    let x = c.index-changed-0.result in
    let long : length c.args.changed.now ≡ 1 = grind (arith, common_steps) in
    let short : length c.args.gone.now ≡ 0 = grind (arith, common_steps) in
    let one : c.args.changed.now ≡ x ∷ [] = one_item c.args.changed.now x long c.index-changed-0.is in
    let none : c.args.gone.now ≡ [] = no_item c.args.gone.now short in
    puts_row old rows x.0.now x.1
    (subst (λ ys. PutsRows old ((x.0.now, x.1) ∷ []) (map seen ys) rows) none
    (subst (λ xs. PutsRows old (map seen xs) (map seen c.args.gone.now) rows) one c.requires.puts))
