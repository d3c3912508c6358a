use Rattle.std.proofs.Common.{sym, subst, ap, ◌∙◌}
use Rattle.path_map.specs.Entries.{IsInOrder}
use Rattle.path_classes.specs.Classes.{Classed}
use Rattle.acl_tree.specs.Files.{Recorded}
use Rattle.acl_tree.specs.State.{State}
use Rattle.acl_rights.specs.Verdicts.{rows_granted}
use Rattle.facl_answers.proofs.ChangeLines.{rows_order}
use Rattle.facl_answers.proofs.PartRows.{from_order}
use Rattle.facl_answers.proofs.both_classes.classes_from.Goals as goal

pub returns-clause-order : goal.returns-clause-order
returns-clause-order g c =
    let V = g.J.Judge.verdict_of in
    let asked = c.args.verdicts.now in
    let order = subst (λ (t : Recorded). IsInOrder t.files) (c.tree.ensures ∙ ap (λ (known : State). known.tree) c.state.ensures) c.soundness_law.ensures.order in
    subst IsInOrder (sym (ap (λ (k : Classed). k.1) c.classes_from.ensures))
    (from_order c.args.top.now (rows_granted V asked.along asked.state.now) (rows_order V asked.along asked.state.now order))
