use Rattle.std.proofs.Common.{ℕ, List, Option, sym, ap, subst}
use Rattle.std.specs.Prelude.{IfSome}
use Rattle.kinds.specs.Kinds.{KindsOf}
use Rattle.kinds.specs.Numbered.{Kept}
use Rattle.path_classes.specs.declared.label_row.LabelRow.{LabelRow}
use Rattle.path_classes.specs.declared.path_class.PathClass.{PathClass}
use Rattle.path_classes.specs.PathClasses.{ClassKinds, AreClasses}
use Rattle.path_classes.specs.Renewing.{AreLinked, AreSearched, AreRenewed, FitBut}
use Rattle.path_classes.proofs.RenewedClasses.{fit_all_rows, fit_linked, renewed_classes}
use Rattle.path_classes.proofs.rerowed_classes.all_rerowed_classes.Goals as goal

pub searched_once-requires-clause-linked : goal.searched_once-requires-clause-linked
searched_once-requires-clause-linked c =
    let rows : Kept LabelRow = c.args.rows.now in
    let before : Kept PathClass = c.args.before.now in
    let ns : List ℕ = c.in_ok-searched.searched.items in
    let are : AreSearched before.0 ns = subst (λ (l : Kept PathClass). AreSearched l.0 ns) c.map.ensures c.in_ok-searched.ensures in
    subst (λ (l : KindsOf LabelRow). AreLinked l before.0) (sym c.kinds-labels.ensures.all)
    (fit_linked rows before c.kinds-classes.ensures.sound ns (fit_all_rows c.args.old.now rows before c.kinds-labels.ensures.sound.used ns c.requires.were c.requires.paths are))

pub searched_once-requires-clause-searched : goal.searched_once-requires-clause-searched
searched_once-requires-clause-searched c =
    let before : Kept PathClass = c.args.before.now in
    subst (AreSearched before.0) (sym c.deref.ensures.value) (subst (λ (l : Kept PathClass). AreSearched l.0 c.in_ok-searched.searched.items) c.map.ensures c.in_ok-searched.ensures)

pub with_searches-requires : goal.with_searches-requires
with_searches-requires c =
    let found : AreRenewed c.kinds-labels.result.now c.args.before.now.0 c.in-Some.classes =
    subst (λ (o : Option ClassKinds). IfSome o (AreRenewed c.kinds-labels.result.now c.args.before.now.0)) c.in-Some.is c.in_ok-found.ensures in
    record { counts = found.counts; shapes = found.shapes }

pub returns-in-Some-clause-classes : goal.returns-in-Some-clause-classes
returns-in-Some-clause-classes c =
    let rows : Kept LabelRow = c.args.rows.now in
    let before : Kept PathClass = c.args.before.now in
    let new : ClassKinds = c.in-Some.classes in
    let ns : List ℕ = c.in_ok-searched.searched.items in
    let are : AreSearched before.0 ns = subst (λ (l : Kept PathClass). AreSearched l.0 ns) c.map.ensures c.in_ok-searched.ensures in
    let fit : FitBut rows before ns = fit_all_rows c.args.old.now rows before c.kinds-labels.ensures.sound.used ns c.requires.were c.requires.paths are in
    let found : AreRenewed rows.0 before.0 new =
    subst (λ (l : KindsOf LabelRow). AreRenewed l before.0 new) c.kinds-labels.ensures.all
    (subst (λ (o : Option ClassKinds). IfSome o (AreRenewed c.kinds-labels.result.now before.0)) c.in-Some.is c.in_ok-found.ensures) in
    subst (AreClasses rows) (sym c.in_ok-new.ensures) (renewed_classes rows before c.kinds-classes.ensures.sound ns fit new found)

pub renewed_classes-requires : goal.renewed_classes-requires
renewed_classes-requires c =
    fit_all_rows c.args.old.now c.args.rows.now c.args.before.now c.kinds-labels.ensures.sound.used c.in_ok-searched.searched.items c.requires.were c.requires.paths
    (subst (λ (l : Kept PathClass). AreSearched l.0 c.in_ok-searched.searched.items) c.map.ensures c.in_ok-searched.ensures)

pub returns-in-Some-clause-paths : goal.returns-in-Some-clause-paths
returns-in-Some-clause-paths c = ap (λ (l : Kept PathClass). l.1) c.in_ok-new.ensures
