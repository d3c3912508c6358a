use Rattle.acl_tree.proofs.AsItIs.{restored_as_is}
use Rattle.acl_tree.proofs.laws.restore_of_what_is_changes_nothing.Goals as goal

pub returns : goal.returns
returns c = restored_as_is
