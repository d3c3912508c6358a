use Rattle.std.proofs.Common.{Ok, refl, ap, sym, subst, ◌∙◌}
use Rattle.acl_tree.specs.Reports.{StagedState, Prepares}
use Rattle.acl_tree.specs.declared.command.Command.TheVariants.{Restore}
use Rattle.acl_tree.specs.State.{State, state_from, with_tree}
use Rattle.acl_tree.proofs.Each.{kept_restored}
use Rattle.acl_tree.proofs.Reported.{reported_files}
use Rattle.acl_text.specs.Results.{◌>>=◌}
use Rattle.acl_tree.proofs.edit_command.prepare_restore.Goals as goal

pub with_files-requires : goal.with_files-requires
with_files-requires c = c.in_ok-after.ensures.others

pub keeping_files-requires : goal.keeping_files-requires
keeping_files-requires c =
    ap (λ s. s.gone) c.in_ok-staged.ensures.all
    ∙ kept_restored c.args.records.now c.args.state.now.tree.now c.in_ok-after.after.0 c.soundness_law.ensures.order c.in_ok-after.ensures.restored

pub returns : goal.returns
returns c =
    let old : State = state_from c.args.state.now.tree.now c.args.state.now.people.now in
    let new : State = state_from c.in_ok-after.after.0 c.args.state.now.people.now in
    subst (λ (s : StagedState). Prepares old (Restore c.args.records.now) (Ok s)) (sym c.keeping_files.ensures) (record {
      made = ap (λ r. r >>= with_tree old) c.in_ok-after.ensures.restored ∙ ap (λ (s : State). Ok s) (sym (ap (λ s. s.state) c.in_ok-staged.ensures.all));
      sound = c.in_ok-staged.ensures.sound;
      reports = reported_files old new c.in_ok-staged.staged c.in_ok-staged.ensures.all refl
          (kept_restored c.args.records.now old.tree new.tree c.soundness_law.ensures.order c.in_ok-after.ensures.restored);
      moved = ap (λ s. s.user_change) c.in_ok-staged.ensures.all;
    })
