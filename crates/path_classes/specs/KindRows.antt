-- For each path its label and row.
use Rattle.std.specs.Prelude.{List, map}
use Rattle.acl_names.specs.Paths.{PathOf}
use Rattle.path_classes.specs.declared.label_row.LabelRow.{LabelRow}
use Rattle.path_classes.specs.Rows.{Rows}

-- for each path its label and row
abbrev pub RowedPaths : Type 0
RowedPaths = List (PathOf × LabelRow)

-- the rows alone
abbrev pub rows_at : RowedPaths → Rows
rows_at es = map (λ e. (e.0, e.1.row)) es
