use Rattle.std.proofs.Common.{sym, ap, subst, ◌∙◌}
use Rattle.std.specs.Prelude.{option_map}
use Rattle.kinds.specs.Kinds.{KindsOf}
use Rattle.kinds.specs.Numbered.{Kept, Numbers}
use Rattle.path_classes.specs.declared.label_row.LabelRow.{LabelRow}
use Rattle.path_classes.specs.NumberedRows.{HaveRows, FilesLeft, row_of, rows_by, rows_left}
use Rattle.path_classes.proofs.NumberedRows.{numbers_have, numbers_from}
use Rattle.path_classes.proofs.classed_rows.ClassedRows.numbered_files_from.Goals as goal

pub new-requires : goal.new-requires
new-requires c =
    let rows : Kept LabelRow = c.args.self.now in
    let classes = option_map (λ k. k.now) c.file_numbers-end.result.1 in
    let numbers = c.file_numbers-end.result.0.now in
    subst (λ (k : KindsOf LabelRow). HaveRows k classes c.from.result) (sym (c.kinds.ensures.all ∙ ap (λ (kept : Kept LabelRow). kept.0) c.rows.ensures))
    (subst (λ (ns : Numbers). HaveRows rows.0 classes ns) (sym c.from.ensures) (numbers_have c.args.along rows classes numbers c.file_numbers-end.ensures.numbers c.args.top.now))

pub returns : goal.returns
returns c =
    let rows : Kept LabelRow = c.args.self.now in
    let classes = option_map (λ k. k.now) c.file_numbers-end.result.1 in
    let numbers = c.file_numbers-end.result.0.now in
    ap (λ (f : FilesLeft). rows_left f) c.new.ensures
    ∙ ap (λ (k : KindsOf LabelRow). rows_by (row_of k classes) c.from.result) (c.kinds.ensures.all ∙ ap (λ (kept : Kept LabelRow). kept.0) c.rows.ensures)
    ∙ ap (λ (ns : Numbers). rows_by (row_of rows.0 classes) ns) c.from.ensures
    ∙ numbers_from c.args.along rows classes numbers c.file_numbers-end.ensures.numbers c.args.top.now
