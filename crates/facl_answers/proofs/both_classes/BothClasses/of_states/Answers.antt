use Rattle.std.proofs.Common.{subst, ◌∙◌}
use Rattle.path_map.specs.Below.{from}
use Rattle.path_map.specs.Entries.{IsInOrder}
use Rattle.acl_tree.specs.State.{State}
use Rattle.acl_rights.specs.Verdicts.{rows_granted}
use Rattle.facl_answers.specs.BothStates.{front, rows_of_both}
use Rattle.facl_answers.proofs.ChangeLines.{rows_order}
use Rattle.facl_answers.proofs.PartRows.{front_is}
use Rattle.facl_answers.proofs.both_classes.BothClasses.of_states.Goals as goal

pub returns-clause-files : goal.returns-clause-files
returns-clause-files g c =
    let V = g.J.Judge.verdict_of in
    let asked = c.args.verdicts.now in
    let loaded = c.args.loaded.now in
    let now = asked.state.now in
    let top = c.args.top.now in
    let was = c.verdicts-verdicts_before.ensures in
    let old = c.classes_from-before.ensures.all ∙ (λ i. from top (rows_granted V (was.along i) (was.state i))) in
    (λ i. front top (rows_of_both (old i) (c.classes_from-after.ensures.all i)))
    ∙ front_is top (rows_granted V asked.along loaded) (rows_granted V asked.along now)
    (rows_order V asked.along loaded (subst (λ (s : State). IsInOrder s.tree.files) was.state c.classes_from-before.ensures.tree)) (rows_order V asked.along now c.classes_from-after.ensures.tree)
