use Rattle.acl_people.proofs.Undone.{user_again}
use Rattle.acl_people.proofs.laws.added_user_is_removed.Goals as goal

pub returns : goal.returns
returns c = λ name uid group known. user_again name uid group known
