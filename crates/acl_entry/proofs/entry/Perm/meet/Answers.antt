use Rattle.std.proofs.Common.{ap, ◌∙◌}
use Rattle.acl_entry.specs.Perms.{numbered}
use Rattle.acl_entry.proofs.PermLaws.{numbered-and}
use Rattle.acl_entry.proofs.entry.Perm.meet.Goals as goal

pub returns : goal.returns
returns c = rw (← c.self.view_is, ← c.other.view_is) (ap numbered (c.intersection.ensures _) ∙ numbered-and _ _)
