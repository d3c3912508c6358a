use Rattle.std.proofs.Common.{◌≡◌, ◌≤◌, ℕ, ◌∷◌, [], Option, Some, length, sym, ap, subst, ◌∙◌}
use Rattle.std.specs.Prelude.{IfSome}
use Rattle.std.specs.FinMap.{find}
use Rattle.acl_names.specs.Paths.{path_cmp, PathOf}
use Rattle.kinds.specs.Numbered.{Kept, Numbers}
use Rattle.path_classes.specs.declared.label_row.LabelRow.{LabelRow}
use Rattle.path_classes.specs.declared.path_class.PathClass.{PathClass}
use Rattle.path_classes.specs.ClassedRows.{AreCounted}
use Rattle.path_classes.specs.ClassesWithin.{inside}
use Rattle.path_classes.specs.Renewing.{IsOwnClass}
use Rattle.path_classes.proofs.RelabelledFile.{are_relabelled, own_inside, file_counted, file_within}
use Rattle.path_classes.proofs.relabelled_file.relabelled_file.Goals as goal

pub relabelled_classes-requires : goal.relabelled_classes-requires
relabelled_classes-requires c =
    let old : Kept LabelRow = c.args.old.now in
    let rows : Kept LabelRow = c.args.rows.now in
    let before : Kept PathClass = c.args.before.now in
    let p : PathOf = c.args.path.now in
    let own : IsOwnClass before p c.in-Some.number = subst (λ (o : Option ℕ). IfSome o (IsOwnClass before p)) c.in-Some.is c.in_ok-number.ensures in
    let label : find path_cmp p rows.1 ≡ Some c.in-Some-get.kind = ap (λ (ns : Numbers). find path_cmp p ns) (sym c.numbers.ensures.all) ∙ sym c.in-Some-get.ensures in
    are_relabelled old rows before c.kinds-classes.ensures.sound c.kinds-labels.ensures.sound c.requires.were p c.requires.puts c.in-Some.number c.in-Some-get.kind own label

pub returns-clause-least : goal.returns-clause-least
returns-clause-least c =
    let old : Kept LabelRow = c.args.old.now in
    let rows : Kept LabelRow = c.args.rows.now in
    let before : Kept PathClass = c.args.before.now in
    let p : PathOf = c.args.path.now in
    let own : IsOwnClass before p c.in-Some.number = subst (λ (o : Option ℕ). IfSome o (IsOwnClass before p)) c.in-Some.is c.in_ok-number.ensures in
    let label : find path_cmp p rows.1 ≡ Some c.in-Some-get.kind = ap (λ (ns : Numbers). find path_cmp p ns) (sym c.numbers.ensures.all) ∙ sym c.in-Some-get.ensures in
    let inner = own_inside old rows before c.kinds-classes.ensures.sound c.kinds-labels.ensures.sound c.requires.were p c.requires.puts c.in-Some.number c.in-Some-get.kind own label in
    subst (AreCounted old rows) (sym c.in-Some-checked_add.ensures.1)
    (file_counted old rows before c.kinds-classes.ensures.sound c.kinds-labels.ensures.sound c.requires.were p c.requires.puts c.in-Some.number c.in-Some-get.kind own label
    c.order_law.ensures c.order_law-2.ensures c.kinds-labels_before.ensures.sound c.in_ok-new.new.0 c.in_ok-new.ensures.classes c.in_ok-new.ensures.paths
    c.in_ok-new.new.1.items c.in_ok-new.ensures.search
    (c.in_ok-new.ensures.inside (p ∷ []) inner) c.in_ok-below.below
    c.in_ok-below.ensures)

pub returns-clause-most : goal.returns-clause-most
returns-clause-most c =
    let old : Kept LabelRow = c.args.old.now in
    let rows : Kept LabelRow = c.args.rows.now in
    let before : Kept PathClass = c.args.before.now in
    let p : PathOf = c.args.path.now in
    let own : IsOwnClass before p c.in-Some.number = subst (λ (o : Option ℕ). IfSome o (IsOwnClass before p)) c.in-Some.is c.in_ok-number.ensures in
    let label : find path_cmp p rows.1 ≡ Some c.in-Some-get.kind = ap (λ (ns : Numbers). find path_cmp p ns) (sym c.numbers.ensures.all) ∙ sym c.in-Some-get.ensures in
    let inner = own_inside old rows before c.kinds-classes.ensures.sound c.kinds-labels.ensures.sound c.requires.were p c.requires.puts c.in-Some.number c.in-Some-get.kind own label in
    subst (λ n. n ≤ length (inside (p ∷ []) rows.1)) (sym c.in-Some-checked_add.ensures.1)
    (file_within old rows before c.kinds-classes.ensures.sound c.kinds-labels.ensures.sound c.requires.were p c.requires.puts c.in-Some.number c.in-Some-get.kind own label
    c.order_law.ensures c.order_law-2.ensures c.kinds-labels_before.ensures.sound c.in_ok-new.new.0 c.in_ok-new.ensures.classes c.in_ok-new.ensures.paths
    c.in_ok-new.new.1.items c.in_ok-new.ensures.search
    (c.in_ok-new.ensures.inside (p ∷ []) inner) c.in_ok-below.below
    c.in_ok-below.ensures)
