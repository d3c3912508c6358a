use Rattle.std.proofs.Common.{◌≡◌, ℕ, List, Option, None, Some, get_or, sym, ap, ◌∙◌, arith}
use Rattle.kinds.specs.Given.{shared_nodes}
use Rattle.path_classes.specs.declared.label_row.LabelRow.{LabelRow}
use Rattle.acl_rights.proofs.kept_labels.has_same_row.Goals as goal

pub returns-then-number-other : goal.returns-then-number-other
returns-then-number-other c h =
    let rows : List (Option LabelRow) = shared_nodes c.args.rows.now in
    let same : c.args.number ≡ c.args.other = omega (arith, c.if-number-other.true) in
    record { row = c.in-Some.row.now; one = sym c.in-Some.ensures; same = ap (λ (n : ℕ). get_or rows n None) (sym same) ∙ sym c.in-Some.ensures }

pub returns-in-Some-row_at : goal.returns-in-Some-row_at
returns-in-Some-row_at c h =
    record { row = c.in-Some.row.now; one = sym c.in-Some.ensures; same = sym c.in-Some-row_at.ensures ∙ ap Some (sym (c.is_same.ensures h)) }
