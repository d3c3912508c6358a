use Rattle.std.proofs.Common.{Some}
use Rattle.acl_tree.specs.Restoring.{edit_of}
use Rattle.acl_tree.proofs.Placed.{restore_keeps}
use Rattle.acl_tree.proofs.restore.RestoredNodeEdit.keeps_place.Goals as goal

pub returns : goal.returns
returns c = λ p. restore_keeps (Some (edit_of c.args.self.now.1))
