use Rattle.acl_text.proofs.Lowest.{entry_lowest}
use Rattle.acl_text.proofs.laws.entry_fault_is_lowest.Goals as goal

pub returns : goal.returns
returns c = entry_lowest
