use Rattle.std.proofs.Common.{◌<◌, ℕ, length, Some, None, true, false, sym, ap, subst, ◌∙◌}
use Rattle.std.specs.List.{AllByRecursion}
use Rattle.acl_names.specs.Paths.{PathOf}
use Rattle.kinds.specs.Numbered.{Kept, Numbers}
use Rattle.path_classes.specs.declared.label_row.LabelRow.{LabelRow}
use Rattle.path_classes.specs.declared.path_class.PathClass.{PathClass}
use Rattle.path_classes.specs.PathClasses.{ClassKinds, AreClasses}
use Rattle.path_classes.specs.NumberedRows.{AreNumbers}
use Rattle.path_classes.proofs.NumberedRows.{class_numbers, label_numbers, numbers_below}
use Rattle.path_classes.proofs.classed_rows.ClassedRows.file_numbers.Goals as goal

pub returns-then-not-along-clause-numbers : goal.returns-then-not-along-clause-numbers
returns-then-not-along-clause-numbers c =
    let rows : Kept LabelRow = c.rows-rows.result.now in
    subst (λ along. AreNumbers along c.args.self.now None c.numbers-labels.result.now) (sym c.if-not-along.true)
    (subst (λ (kept : Kept LabelRow). AreNumbers false kept None c.numbers-labels.result.now) c.rows-rows.ensures
    (subst (AreNumbers false rows None) (sym c.numbers-labels.ensures.all)
    (label_numbers rows c.numbers-labels.ensures.sound.used c.numbers-labels.ensures.sound.counted)))

pub returns-clause-numbers : goal.returns-clause-numbers
returns-clause-numbers c =
    let rows : Kept LabelRow = c.rows-rows.result.now in
    let classes : Kept PathClass = c.classes-classes.result.now in
    let are : AreClasses rows classes = subst (λ (kept : Kept LabelRow). AreClasses kept classes) (sym c.rows-rows.ensures) c.classes-classes.ensures in
    subst (λ along. AreNumbers along c.args.self.now (Some c.kinds.result.now) c.numbers.result.now) (sym c.if-not-along.false)
    (subst (λ (kept : Kept LabelRow). AreNumbers true kept (Some c.kinds.result.now) c.numbers.result.now) c.rows-rows.ensures
    (subst (λ (ns : Numbers). AreNumbers true rows (Some c.kinds.result.now) ns) (sym c.numbers.ensures.all)
    (subst (λ (k : ClassKinds). AreNumbers true rows (Some k) classes.1) (sym c.kinds.ensures.all)
    (class_numbers rows classes c.numbers-labels.ensures.sound.used are c.order_law.ensures c.numbers.ensures.sound.counted))))

pub returns-then-not-along-clause-end : goal.returns-then-not-along-clause-end
returns-then-not-along-clause-end c =
    let rows : Kept LabelRow = c.rows-rows.result.now in
    subst (λ (n : ℕ). AllByRecursion (λ (e : PathOf × ℕ). e.1 < n) c.numbers-labels.result.now) (sym (c.numbers_len.ensures ∙ ap (λ (m : Kept LabelRow). length m.0.0) c.map.ensures))
    (subst (AllByRecursion (λ (e : PathOf × ℕ). e.1 < length rows.0.0)) (sym c.numbers-labels.ensures.all)
    (numbers_below rows.0 rows.1 c.numbers-labels.ensures.sound.used))

pub returns-clause-end : goal.returns-clause-end
returns-clause-end c =
    let classes : Kept PathClass = c.classes-classes.result.now in
    subst (λ (n : ℕ). AllByRecursion (λ (e : PathOf × ℕ). e.1 < n) c.numbers.result.now) (sym (c.numbers_len-end.ensures ∙ ap (λ (m : Kept PathClass). length m.0.0) c.map-2.ensures))
    (subst (AllByRecursion (λ (e : PathOf × ℕ). e.1 < length classes.0.0)) (sym c.numbers.ensures.all)
    (numbers_below classes.0 classes.1 c.numbers.ensures.sound.used))
