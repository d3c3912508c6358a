use Rattle.std.proofs.Common.{Ok, refl, ap, sym, subst, ◌∙◌}
use Rattle.acl_tree.specs.Files.{Recorded}
use Rattle.acl_tree.specs.Edits.{of_each}
use Rattle.acl_tree.specs.InnerCommands.{IsStaged}
use Rattle.acl_tree.specs.Reports.{StagedState}
use Rattle.acl_tree.specs.State.{State, state_from}
use Rattle.acl_tree.specs.declared.user_change.UserChange.TheVariants.{Unchanged}
use Rattle.acl_tree.proofs.Each.{edits_each, edit_alike, kept_edited}
use Rattle.acl_tree.proofs.Reported.{reported_files}
use Rattle.acl_tree.proofs.edit_command.stage_edits.Goals as goal

pub with_files-requires : goal.with_files-requires
with_files-requires g c =
    let region = c.in_ok-touched.touched in
    (edits_each (of_each (g.E.NodeEdit.edited c.args.edit.now)) region.0 region.1 c.args.state.now.tree.now c.in_ok-edited.edited c.soundness_law.ensures.order c.in_ok-edited.ensures).others

pub keeping_files-requires : goal.keeping_files-requires
keeping_files-requires g c =
    let region = c.in_ok-touched.touched in
    ap (λ s. s.gone) c.in_ok-staged.ensures.all
    ∙ kept_edited (of_each (g.E.NodeEdit.edited c.args.edit.now)) region.0 region.1 c.args.state.now.tree.now c.in_ok-edited.edited c.soundness_law.ensures.order c.in_ok-edited.ensures

pub returns-clause-made : goal.returns-clause-made
returns-clause-made g c =
    let region = c.in_ok-touched.touched in
    let r = c.args.selection.now.recursive in
    let paths = c.args.selection.now.operands.now in
    sym (edit_alike (of_each (g.E.NodeEdit.edited c.args.edit.now)) region.0 r region.1 paths c.args.state.now.tree.now c.in_ok-touched.ensures)
    ∙ c.in_ok-edited.ensures
    ∙ ap (λ (t : Recorded). Ok t) (sym (ap (λ s. s.state.tree) (c.keeping_files.ensures ∙ c.in_ok-staged.ensures.all)))

pub returns-clause-people : goal.returns-clause-people
returns-clause-people g c = ap (λ (s : StagedState). s.state.people) (c.keeping_files.ensures ∙ c.in_ok-staged.ensures.all)

pub returns-clause-staged : goal.returns-clause-staged
returns-clause-staged g c =
    let region = c.in_ok-touched.touched in
    let old : State = state_from c.args.state.now.tree.now c.args.state.now.people.now in
    let new : State = state_from c.in_ok-edited.edited c.args.state.now.people.now in
    subst (λ (s : StagedState). IsStaged old Unchanged s) (sym c.keeping_files.ensures) (record {
      sound = c.in_ok-staged.ensures.sound;
      reports =
          reported_files old new c.in_ok-staged.staged c.in_ok-staged.ensures.all refl
          (kept_edited (of_each (g.E.NodeEdit.edited c.args.edit.now)) region.0 region.1 old.tree new.tree c.soundness_law.ensures.order c.in_ok-edited.ensures);
      moved = ap (λ s. s.user_change) c.in_ok-staged.ensures.all;
    })
