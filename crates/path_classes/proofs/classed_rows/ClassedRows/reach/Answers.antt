use Rattle.std.proofs.Common.{◌≡◌, ℕ, List, None, Some, sym, ap, subst, ◌∙◌}
use Rattle.std.specs.Prelude.{option_and_then, slice_get}
use Rattle.std.specs.FinMap.{find}
use Rattle.acl_names.specs.Paths.{path_cmp}
use Rattle.kinds.specs.Kinds.{KindsOf}
use Rattle.kinds.specs.Numbered.{Kept, Numbers, entries_in}
use Rattle.path_classes.specs.declared.label_row.LabelRow.{LabelRow}
use Rattle.path_classes.specs.declared.path_class.PathClass.{PathClass}
use Rattle.path_classes.specs.KindRows.{rows_at}
use Rattle.path_classes.specs.ReachedRows.{reached_at}
use Rattle.path_classes.specs.PathClasses.{ClassKinds, AreClasses}
use Rattle.path_classes.specs.NumberedRows.{class_row}
use Rattle.path_classes.proofs.NumberedRows.{row_nowhere, row_here}
use Rattle.path_classes.proofs.classed_rows.ClassedRows.reach.Goals as goal

pub returns-in-Some : goal.returns-in-Some
returns-in-Some c =
    let rows : Kept LabelRow = c.rows-rows.result.now in
    let classes : Kept PathClass = c.classes-classes.result.now in
    let p = c.args.path.now in
    let user = c.args.user in
    let n : ℕ = c.in-Some.number in
    let are : AreClasses rows classes = subst (λ (kept : Kept LabelRow). AreClasses kept classes) (sym c.rows-rows.ensures) c.classes-classes.ensures in
    let found : find path_cmp p classes.1 ≡ Some n = ap (λ (ns : Numbers). find path_cmp p ns) (sym c.numbers.ensures.all) ∙ sym c.in-Some.ensures in
    c.class_cell.ensures
    ∙ ap (λ (k : KindsOf LabelRow). slice_get (class_row k c.kinds.result.now n) user) c.kinds-labels.ensures.all
    ∙ ap (λ (k : ClassKinds). slice_get (class_row rows.0 k n) user) c.kinds.ensures.all
    ∙ ap (option_and_then (λ (cells : List ℕ). slice_get cells user)) (sym (row_here rows classes c.kinds-labels.ensures.sound.used are c.order_law.ensures p n found))
    ∙ ap (λ (kept : Kept LabelRow). reached_at (rows_at (entries_in kept)) user p) c.rows-rows.ensures

pub returns-in-None : goal.returns-in-None
returns-in-None c =
    let rows : Kept LabelRow = c.rows-rows.result.now in
    let classes : Kept PathClass = c.classes-classes.result.now in
    let p = c.args.path.now in
    let user = c.args.user in
    let are : AreClasses rows classes = subst (λ (kept : Kept LabelRow). AreClasses kept classes) (sym c.rows-rows.ensures) c.classes-classes.ensures in
    let found : find path_cmp p classes.1 ≡ None = ap (λ (ns : Numbers). find path_cmp p ns) (sym c.numbers.ensures.all) ∙ sym c.in-None.ensures in
    ap (option_and_then (λ (cells : List ℕ). slice_get cells user)) (sym (row_nowhere rows classes c.kinds-labels.ensures.sound.used are c.order_law.ensures p found))
    ∙ ap (λ (kept : Kept LabelRow). reached_at (rows_at (entries_in kept)) user p) c.rows-rows.ensures
