use Rattle.acl_tree.proofs.Unnamed.{unnamed_stays}
use Rattle.acl_tree.proofs.laws.unnamed_files_stay.Goals as goal

pub returns : goal.returns
returns c = unnamed_stays
