use Rattle.acl_people.proofs.Undone.{member_again}
use Rattle.acl_people.proofs.laws.added_member_is_removed.Goals as goal

pub returns : goal.returns
returns c = λ user group known. member_again user group known
