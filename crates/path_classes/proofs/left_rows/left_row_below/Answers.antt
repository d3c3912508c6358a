use Rattle.std.proofs.Common.{◌++◌, ◌-◌, min, take, drop, length, replicate, ap, ◌∙◌, arith}
use Rattle.std.proofs.lemmas.List.{length-take-le}
use Rattle.path_classes.specs.NumberedRows.{left_to}
use Rattle.path_classes.proofs.LeftRows.{left_in_place}
use Rattle.path_classes.proofs.left_rows.left_row_below.Goals as goal

pub returns : goal.returns
returns c =
    let items = c.extend_from_slice.new.self.items in
    let cells = c.args.cells.now in
    let through = c.as_slice-through.ensures in
    let len = c.extend_from_slice.new.self.len in
    let new = c.leave_to.new.cells in
    let users = c.min-users.ensures ∙ ap (λ l. min (length l) (length cells)) through in
    let first = take c.min-users.result cells in
    let copied = c.in_ok-extend_from_slice.ensures.items ∙ ap (λ l. l ++ first) c.new-new.ensures.items in
    let taken = length-take-le c.min-users.result cells (omega (arith, users)) in
    let written = c.leave_to.ensures ∙ (λ i. left_to (through i) (c.as_mut_slice.ensures.value i)) in
    c.in_ok-resize.ensures.items
    ∙ ap (λ none. take (length cells) (take len (new ++ drop (length new) items)) ++ replicate (length cells - len) none) c.none.ensures
    ∙ left_in_place c.args.above.now cells items c.min-users.result users new (written ∙ ap (left_to c.args.above.now) copied) len
    (omega (arith, c.in_ok-extend_from_slice.ensures.len, c.new-new.ensures.len, taken))
