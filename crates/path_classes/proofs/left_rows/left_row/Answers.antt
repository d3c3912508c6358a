use Rattle.std.proofs.Common.{◌++◌, sym, ap, ◌∙◌}
use Rattle.std.specs.Option.{option_copied}
use Rattle.path_classes.specs.NumberedRows.{left_from}
use Rattle.path_classes.proofs.LeftRows.{left_all}
use Rattle.path_classes.proofs.left_rows.left_row.Goals as goal

pub returns : goal.returns
returns c =
    c.in_ok-extend_from_slice.ensures.items ∙ ap (λ l. l ++ c.args.cells.now) c.new-new.ensures.items ∙ sym (left_all 0 c.args.cells.now)
    ∙ ap (λ o. left_from (option_copied o) 0 c.args.cells.now) (sym c.in_default.is)
