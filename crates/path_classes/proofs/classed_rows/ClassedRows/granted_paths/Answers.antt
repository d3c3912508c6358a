use Rattle.std.proofs.Common.{ap, ◌∙◌}
use Rattle.kinds.specs.Numbered.{Kept, entries_in}
use Rattle.path_classes.specs.declared.label_row.LabelRow.{LabelRow}
use Rattle.path_classes.specs.KindRows.{rows_at}
use Rattle.path_classes.specs.Rows.{may_in}
use Rattle.path_classes.proofs.Granted.{may_rows}
use Rattle.path_classes.proofs.classed_rows.ClassedRows.granted_paths.Goals as goal

pub returns : goal.returns
returns c =
    c.in_ok-paths.ensures
    ∙ may_rows c.args.request c.args.user (entries_in c.rows.result.now)
    ∙ ap (λ (kept : Kept LabelRow). may_in c.args.request c.args.user (rows_at (entries_in kept))) c.rows.ensures
