use Rattle.acl_text.proofs.Lowest.{piece_lowest}
use Rattle.acl_text.proofs.laws.piece_fault_is_lowest.Goals as goal

pub returns : goal.returns
returns c = piece_lowest
