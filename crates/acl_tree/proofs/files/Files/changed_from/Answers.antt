use Rattle.std.proofs.Common.{◌∙◌}
use Rattle.acl_tree.specs.Operands.{in_region}
use Rattle.acl_tree.proofs.Changes.{differing_changed, same_back}
use Rattle.acl_tree.proofs.files.Files.changed_from.Goals as goal

pub differing-requires : goal.differing-requires
differing-requires c = same_back (in_region c.args.region.now) c.args.before.now.files c.args.self.now.files c.requires

pub returns : goal.returns
returns c = c.differing.ensures ∙ differing_changed c.args.before.now.files c.args.self.now.files
