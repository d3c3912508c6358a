use Rattle.std.proofs.Common.{◌≡◌, ℕ, [], cond, Option, Some, None, sym, ap, ◌∙◌}
use Rattle.std.specs.Prelude.{option_map, slice_get}
use Rattle.std.specs.Option.{option_map_or}
use Rattle.kinds.specs.Kinds.{KindsOf, node_at}
use Rattle.path_classes.specs.declared.label_row.LabelRow.{LabelRow}
use Rattle.path_classes.specs.declared.path_class.PathClass.{PathClass}
use Rattle.path_classes.specs.PathClasses.{ClassKinds, search_above}
use Rattle.path_classes.specs.Searching.{gets_through}
use Rattle.path_classes.specs.NumberedRows.{label_row, row_below, class_row}
use Rattle.path_classes.proofs.LeftRows.{cell_left}
use Rattle.path_classes.proofs.left_rows.class_cell.Goals as goal

module _ (rows : KindsOf LabelRow) (k : ClassKinds) (n user : ℕ) where
  in_class : (o : Option PathClass) → o ≡ node_at k n → slice_get (option_map_or (row_below rows k) o []) user ≡ slice_get (class_row rows k n) user
  in_class o is = ap (λ (o : Option PathClass). slice_get (option_map_or (row_below rows k) o []) user) is

  left_of : (class : PathClass) → Some class ≡ node_at k n → (o : Option ℕ) → o ≡ slice_get (label_row rows class.kind) user
      → option_map (λ c. cond (gets_through (search_above k class.above) user) c 0) o ≡ slice_get (class_row rows k n) user
  left_of class is o cell =
      ap (option_map (λ c. cond (gets_through (search_above k class.above) user) c 0)) cell
      ∙ sym (cell_left (search_above k class.above) user (label_row rows class.kind))
      ∙ in_class (Some class) is

pub returns-in_err-class : goal.returns-in_err-class
returns-in_err-class c = c.from_residual.ensures ∙ in_class c.args.labels.now c.args.classes.now c.args.number c.args.user None c.in_err-class.ensures

pub returns-in_err-cell : goal.returns-in_err-cell
returns-in_err-cell c =
    c.from_residual-in_err-cell.ensures
    ∙ left_of c.args.labels.now c.args.classes.now c.args.number c.args.user c.in_ok-class.class.now c.in_ok-class.ensures None c.in_err-cell.ensures

pub returns : goal.returns
returns c =
    ap (λ (n : ℕ). Some n) (c.where_through.ensures ∙ ap (λ b. cond b c.in_ok-cell.cell 0) c.passes_above-through.ensures)
    ∙ left_of c.args.labels.now c.args.classes.now c.args.number c.args.user c.in_ok-class.class.now c.in_ok-class.ensures (Some c.in_ok-cell.cell) c.in_ok-cell.ensures
