use Rattle.acl_people.proofs.Otherwise.{otherwise}
use Rattle.acl_people.proofs.laws.group_held_otherwise_stays.Goals as goal

pub returns : goal.returns
returns c = λ user group known sound within. otherwise known sound user within group
