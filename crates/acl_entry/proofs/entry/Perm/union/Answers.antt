use Rattle.std.proofs.Common.{ap, ◌∙◌}
use Rattle.std.proofs.lemmas.Nat.{or_lt}
use Rattle.acl_entry.specs.Perms.{numbered}
use Rattle.acl_entry.proofs.PermLaws.{numbered-or}
use Rattle.acl_entry.proofs.entry.Perm.union.Goals as goal

pub invariant_of-result : goal.invariant_of-result
invariant_of-result c = rw (c.union.ensures _) (or_lt 3 _ _ c.self.invariant c.other.invariant)

pub returns : goal.returns
returns c = rw (← c.self.view_is, ← c.other.view_is) (ap numbered (c.union.ensures _) ∙ numbered-or c.self.inside.bits.0 c.other.inside.bits.0)
