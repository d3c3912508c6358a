use Rattle.std.proofs.Common.{◌≡◌, ◌∙◌, ap, sym, None, Ok, subst, List}
use Rattle.path_map.specs.Entries.{IsInOrder}
use Rattle.acl_names.specs.Paths.{PathOf}
use Rattle.acl_tree.specs.Operands.{first_missing}
use Rattle.acl_tree.specs.Restoring.{paths_of}
use Rattle.acl_tree.specs.State.{State}
use Rattle.acl_tree.specs.Step.{step}
use Rattle.acl_tree.specs.declared.command.Command.TheVariants.{Restore}
use Rattle.facl_tools.proofs.StillThere.{restored_are_there}
use Rattle.facl_tools.proofs.tested.test_restore.Goals as goal

pub test-outcome-requires : goal.test-outcome-requires
test-outcome-requires c =
    let s = c.args.state.now in
    let records = c.args.records in
    let order = subst (λ t. IsInOrder t.files) c.tree.ensures c.soundness_law.ensures.order in
    let same = c.new-operands.ensures ∙ c.in_ok-paths_of.ensures ∙ ap paths_of c.as_slice.ensures.all in
    λ (new : State) (stepped : step s (Restore records) ≡ Ok new).
    subst (λ (operands : List PathOf). first_missing operands new.tree.files ≡ None) (sym same)
    (restored_are_there c.each_file_is_edited.ensures.restore s new records order stepped)
