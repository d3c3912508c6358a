use Rattle.std.proofs.Common.{◌≡◌, ℕ, List, None, Some, sym, ap, subst, ◌∙◌}
use Rattle.std.specs.FinMap.{find}
use Rattle.acl_names.specs.Paths.{path_cmp}
use Rattle.kinds.specs.Kinds.{KindsOf}
use Rattle.kinds.specs.Numbered.{Kept, Numbers, entries_in}
use Rattle.path_classes.specs.declared.label_row.LabelRow.{LabelRow}
use Rattle.path_classes.specs.declared.path_class.PathClass.{PathClass}
use Rattle.path_classes.specs.KindRows.{rows_at}
use Rattle.path_classes.specs.ReachedRows.{reached_rows}
use Rattle.path_classes.specs.PathClasses.{ClassKinds, AreClasses}
use Rattle.path_classes.specs.ClassBuilding.{IsRightAt}
use Rattle.path_classes.specs.NumberedRows.{class_row}
use Rattle.path_classes.proofs.NumberedRows.{row_nowhere, row_here, right_here}
use Rattle.path_classes.proofs.classed_rows.ClassedRows.reached_row.Goals as goal

pub returns-in_default : goal.returns-in_default
returns-in_default c =
    let rows : Kept LabelRow = c.rows-rows.result.now in
    let classes : Kept PathClass = c.classes-classes.result.now in
    let p = c.args.path.now in
    let are : AreClasses rows classes = subst (λ (kept : Kept LabelRow). AreClasses kept classes) (sym c.rows-rows.ensures) c.classes-classes.ensures in
    let found : find path_cmp p classes.1 ≡ None = ap (λ (ns : Numbers). find path_cmp p ns) (sym c.numbers.ensures.all) ∙ sym c.in_default.ensures in
    sym (row_nowhere rows classes c.kinds-labels.ensures.sound.used are c.order_law.ensures p found)
    ∙ ap (λ (kept : Kept LabelRow). find path_cmp p (reached_rows (rows_at (entries_in kept)))) c.rows-rows.ensures

pub class_row-requires : goal.class_row-requires
class_row-requires c =
    let rows : Kept LabelRow = c.rows-rows.result.now in
    let classes : Kept PathClass = c.classes-classes.result.now in
    let p = c.args.path.now in
    let n : ℕ = c.in-Some.number in
    let are : AreClasses rows classes = subst (λ (kept : Kept LabelRow). AreClasses kept classes) (sym c.rows-rows.ensures) c.classes-classes.ensures in
    let found : find path_cmp p classes.1 ≡ Some n = ap (λ (ns : Numbers). find path_cmp p ns) (sym c.numbers.ensures.all) ∙ sym c.in-Some.ensures in
    subst (λ (k : KindsOf LabelRow). IsRightAt k c.kinds.result.now n) (sym c.kinds-labels.ensures.all)
    (subst (λ (k : ClassKinds). IsRightAt rows.0 k n) (sym c.kinds.ensures.all)
    (right_here rows classes c.kinds-labels.ensures.sound.used are p n found))

pub returns : goal.returns
returns c =
    let rows : Kept LabelRow = c.rows-rows.result.now in
    let classes : Kept PathClass = c.classes-classes.result.now in
    let p = c.args.path.now in
    let n : ℕ = c.in-Some.number in
    let are : AreClasses rows classes = subst (λ (kept : Kept LabelRow). AreClasses kept classes) (sym c.rows-rows.ensures) c.classes-classes.ensures in
    let found : find path_cmp p classes.1 ≡ Some n = ap (λ (ns : Numbers). find path_cmp p ns) (sym c.numbers.ensures.all) ∙ sym c.in-Some.ensures in
    ap (λ (row : List ℕ). Some row)
    (c.in_ok-row.ensures
    ∙ ap (λ (k : KindsOf LabelRow). class_row k c.kinds.result.now n) c.kinds-labels.ensures.all
    ∙ ap (λ (k : ClassKinds). class_row rows.0 k n) c.kinds.ensures.all)
    ∙ sym (row_here rows classes c.kinds-labels.ensures.sound.used are c.order_law.ensures p n found)
    ∙ ap (λ (kept : Kept LabelRow). find path_cmp p (reached_rows (rows_at (entries_in kept)))) c.rows-rows.ensures
