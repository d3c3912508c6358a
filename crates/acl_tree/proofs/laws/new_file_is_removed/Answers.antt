use Rattle.acl_tree.proofs.Undone.{created_removed}
use Rattle.acl_tree.proofs.laws.new_file_is_removed.Goals as goal

pub returns : goal.returns
returns c = created_removed
