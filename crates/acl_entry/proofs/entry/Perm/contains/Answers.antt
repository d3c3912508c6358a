use Rattle.std.proofs.Common.{sym, ◌∙◌}
use Rattle.acl_entry.proofs.PermLaws.{contains-and}
use Rattle.acl_entry.proofs.entry.Perm.contains.Goals as goal

pub returns : goal.returns
returns c = rw (← c.self.view_is, ← c.other.view_is) (c.contains.ensures _ ∙ sym (contains-and _ _ c.self.invariant c.other.invariant))
