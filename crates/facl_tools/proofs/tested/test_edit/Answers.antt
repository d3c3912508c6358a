use Rattle.std.proofs.Common.{◌≡◌, ◌∙◌, sym, None, Ok, subst, List}
use Rattle.path_map.specs.Entries.{IsInOrder}
use Rattle.acl_names.specs.Paths.{PathOf}
use Rattle.acl_tree.specs.Operands.{first_missing}
use Rattle.acl_tree.specs.State.{State}
use Rattle.acl_tree.specs.Step.{step}
use Rattle.acl_tree.specs.declared.command.Command.TheVariants.{Edit}
use Rattle.facl_tools.proofs.StillThere.{edited_are_there}
use Rattle.facl_tools.proofs.tested.test_edit.Goals as goal

pub test-outcome-requires : goal.test-outcome-requires
test-outcome-requires c =
    let s = c.args.state.now in
    let paths = c.args.paths in
    let order = subst (λ t. IsInOrder t.files) c.tree.ensures c.soundness_law.ensures.order in
    let same = c.new-operands.ensures ∙ c.in_ok-copies_of.ensures ∙ c.as_slice.ensures in
    λ (new : State) (stepped : step s (Edit paths c.args.edit c.args.recursive) ≡ Ok new).
    subst (λ (operands : List PathOf). first_missing operands new.tree.files ≡ None) (sym same)
    (edited_are_there c.each_file_is_edited.ensures.edit s new c.args.recursive paths c.args.edit order stepped)
