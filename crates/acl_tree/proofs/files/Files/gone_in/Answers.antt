use Rattle.std.proofs.Common.{◌∙◌}
use Rattle.acl_tree.proofs.Changes.{differing_gone}
use Rattle.acl_tree.proofs.files.Files.gone_in.Goals as goal

pub returns : goal.returns
returns c = c.differing.ensures ∙ differing_gone c.args.after.now.files c.args.self.now.files
