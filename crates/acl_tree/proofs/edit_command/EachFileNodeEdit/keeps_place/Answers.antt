use Rattle.acl_tree.proofs.PlacedNodes.{edit_keeps}
use Rattle.acl_tree.proofs.edit_command.EachFileNodeEdit.keeps_place.Goals as goal

pub returns : goal.returns
returns c = edit_keeps c.args.self.now.edit.now c.args.self.now.recursive
