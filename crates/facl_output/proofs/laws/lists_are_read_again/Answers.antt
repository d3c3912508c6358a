use Rattle.facl_output.proofs.ListsSet.{lists_again}
use Rattle.facl_output.proofs.laws.lists_are_read_again.Goals as goal

pub returns : goal.returns
returns c = lists_again c.args.people.now c.args.tree.now.files c.args.tree.now.files c.soundness_law.ensures.placed c.files_are_read_again.ensures
