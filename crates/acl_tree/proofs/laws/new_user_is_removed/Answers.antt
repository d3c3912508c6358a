use Rattle.acl_tree.proofs.NewUsers.{user_removed, user_removed_where_loaded}
use Rattle.acl_tree.proofs.laws.new_user_is_removed.Goals as goal

pub returns-clause-rows : goal.returns-clause-rows
returns-clause-rows c = user_removed

pub returns-clause-whole : goal.returns-clause-whole
returns-clause-whole c = user_removed_where_loaded
