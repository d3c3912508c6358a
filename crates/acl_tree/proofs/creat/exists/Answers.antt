use Rattle.std.proofs.Common.{ap, ◌∙◌}
use Rattle.acl_tree.specs.Files.{Files}
use Rattle.acl_tree.specs.Creat.{exists}
use Rattle.acl_tree.proofs.creat.exists.Goals as goal

pub returns : goal.returns
returns c = c.has_within.ensures ∙ ap (λ (es : Files). exists c.args.path.now es) c.files_by_path.ensures.all
