use Rattle.std.proofs.Common.{◌≡◌, Ok, sym, ap, ◌∙◌}
use Rattle.std.specs.Prelude.{option_map}
use Rattle.acl_edit.specs.Nodes as nodes
use Rattle.acl_tree.specs.Files.{Recorded}
use Rattle.acl_tree.specs.Operands.{first_missing}
use Rattle.acl_tree.proofs.Edits.{never_fails}
use Rattle.acl_tree.specs.State.{State}
use Rattle.acl_tree.specs.Chmod.{chmod_all}
use Rattle.acl_tree.specs.declared.fault.TreeFault.TheVariants.{NoSuchFile}
use Rattle.acl_text.specs.Results.{unless}
use Rattle.acl_tree.proofs.edit_command.prepare_chmod.Goals as goal

pub returns-in-Ok : goal.returns-in-Ok
returns-in-Ok c =
    let r = c.args.selection.now.recursive in
    let paths = c.args.selection.now.operands.now in
    let old : Recorded = c.args.state.now.tree.now in
    let tree : Recorded = chmod_all r paths c.args.mode old in
    let staged : State = record { tree = tree; people = c.args.state.now.people.now } in
    let changed : c.in-Ok.staged.state.tree ≡ tree =
    never_fails (λ _ n. nodes.chmod n c.args.mode) r paths old c.in-Ok.staged.state.tree c.soundness_law.ensures.order c.in-Ok.ensures.made
    in
    let is : c.in-Ok.staged.state ≡ staged = λ i. record { tree = changed i; people = c.in-Ok.ensures.people i } in
    record {
      made =
          ap (λ missing. unless (option_map NoSuchFile missing) (Ok staged)) (ap (λ ps. first_missing ps old.files) (sym c.as_slice.ensures) ∙ c.in_ok-look_up.ensures.all)
          ∙ ap (λ s. Ok s) (sym is);
      sound = c.in-Ok.ensures.staged.sound;
      reports = c.in-Ok.ensures.staged.reports;
      moved = c.in-Ok.ensures.staged.moved;
    }
