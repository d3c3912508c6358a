use Rattle.std.proofs.Common.{◌≡◌, take}
use Rattle.acl_rights.proofs.changed_part.same_part.Given as goal

abbrev pub invariant-loop-top : goal.invariant-loop-top
invariant-loop-top l = l.copies.items ≡ take l.top-index l.tops
