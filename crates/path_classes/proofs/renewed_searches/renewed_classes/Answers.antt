use Rattle.std.proofs.Common.{sym, ap, subst, ◌∙◌}
use Rattle.kinds.specs.Kinds.{KindsOf, node_at}
use Rattle.kinds.specs.Numbered.{Kept}
use Rattle.path_classes.specs.declared.label_row.LabelRow.{LabelRow}
use Rattle.path_classes.specs.declared.path_class.PathClass.{PathClass}
use Rattle.path_classes.specs.PathClasses.{ClassKinds, AreClasses}
use Rattle.path_classes.specs.Renewing.{AreLinked, HaveLinked, AreRenewed}
use Rattle.path_classes.proofs.RenewedClasses.{fit_linked, renewed_all, renewed_classes}
use Rattle.path_classes.proofs.renewed_searches.renewed_classes.Goals as goal

pub renewed_searches-requires-clause-linked : goal.renewed_searches-requires-clause-linked
renewed_searches-requires-clause-linked c =
    let rows : Kept LabelRow = c.args.rows.now in
    let before : Kept PathClass = c.args.before.now in
    subst (λ (k : KindsOf LabelRow). AreLinked k before.0) (sym c.kinds-labels.ensures.all) (fit_linked rows before c.kinds-classes.ensures.sound c.args.waiting.items c.requires)

pub renewed_searches-requires-clause-each : goal.renewed_searches-requires-clause-each
renewed_searches-requires-clause-each c =
    subst (λ (k : KindsOf LabelRow). HaveLinked k c.args.before.now) (sym c.kinds-labels.ensures.all) c.requires.each

pub returns-clause-classes : goal.returns-clause-classes
returns-clause-classes c =
    let rows : Kept LabelRow = c.args.rows.now in
    let before : Kept PathClass = c.args.before.now in
    let new : ClassKinds = c.in_ok-renewed.renewed.classes in
    let all : AreRenewed rows.0 before.0 new =
    subst (λ (k : KindsOf LabelRow). AreRenewed k before.0 new) c.kinds-labels.ensures.all
    (renewed_all c.kinds-labels.result.now before.0 new c.in_ok-renewed.renewed.changed.items c.in_ok-renewed.ensures.classes) in
    subst (AreClasses rows) (sym c.in_ok-new.ensures) (renewed_classes rows before c.kinds-classes.ensures.sound c.args.waiting.items c.requires new all)

pub returns-clause-paths : goal.returns-clause-paths
returns-clause-paths c = ap (λ (l : Kept PathClass). l.1) c.in_ok-new.ensures

pub returns-clause-same : goal.returns-clause-same
returns-clause-same c n out = ap (λ (l : Kept PathClass). node_at l.0 n) c.in_ok-new.ensures ∙ c.in_ok-renewed.ensures.classes.same n out
