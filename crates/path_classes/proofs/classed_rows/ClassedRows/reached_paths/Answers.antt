use Rattle.std.proofs.Common.{map, sym, ap, subst, ◌∙◌}
use Rattle.std.specs.Prelude.{filter}
use Rattle.acl_names.specs.Paths.{PathOf}
use Rattle.kinds.specs.Kinds.{KindsOf}
use Rattle.kinds.specs.Numbered.{Kept, entries_in}
use Rattle.path_classes.specs.declared.label_row.LabelRow.{LabelRow}
use Rattle.path_classes.specs.declared.path_class.PathClass.{PathClass}
use Rattle.path_classes.specs.KindRows.{rows_at}
use Rattle.path_classes.specs.Rows.{grants, may_in}
use Rattle.path_classes.specs.ReachedRows.{reached_rows}
use Rattle.path_classes.specs.PathClasses.{ClassKinds, AreClasses}
use Rattle.path_classes.specs.NumberedRows.{row_below}
use Rattle.path_classes.proofs.NumberedRows.{reached_by, granted_classes}
use Rattle.path_classes.proofs.classed_rows.ClassedRows.reached_paths.Goals as goal

pub returns : goal.returns
returns c =
    let q = c.args.request in
    let user = c.args.user in
    let rows : Kept LabelRow = c.rows-rows.result.now in
    let classes : Kept PathClass = c.classes-classes.result.now in
    let are : AreClasses rows classes = subst (λ (kept : Kept LabelRow). AreClasses kept classes) (sym c.rows-rows.ensures) c.classes-classes.ensures in
    c.in_ok-paths.ensures
    ∙ ap (λ (k : KindsOf LabelRow). map {B = PathOf} (λ (e : PathOf × PathClass). e.0) (filter (λ e. grants q user (row_below k c.kinds-2.result.now e.1)) (entries_in classes))) c.kinds.ensures.all
    ∙ ap (λ (k : ClassKinds). map {B = PathOf} (λ (e : PathOf × PathClass). e.0) (filter (λ e. grants q user (row_below rows.0 k e.1)) (entries_in classes))) c.kinds-2.ensures.all
    ∙ granted_classes rows.0 classes.0 q user classes.1 c.kinds-2.ensures.sound.used
    ∙ ap (may_in q user) (sym (reached_by rows classes c.kinds.ensures.sound.used are c.order_law.ensures))
    ∙ ap (λ (kept : Kept LabelRow). may_in q user (reached_rows (rows_at (entries_in kept)))) c.rows-rows.ensures
