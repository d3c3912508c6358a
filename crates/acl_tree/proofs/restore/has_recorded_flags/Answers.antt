use Rattle.std.proofs.Common.{sym, ◌∙◌}
use Rattle.acl_tree.proofs.SameNodes.{same_flags}
use Rattle.acl_tree.proofs.restore.has_recorded_flags.Goals as goal

pub returns : goal.returns
returns c = λ same. sym c.unwrap_or.ensures ∙ same_flags c.unwrap_or.result c.args.node.now.flags (sym c.eq.ensures ∙ same)
