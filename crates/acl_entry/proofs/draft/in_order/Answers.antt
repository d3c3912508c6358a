use Rattle.std.proofs.Common.{refl, subst}
use Rattle.acl_entry.specs.Lists.{IsInOrder}
use Rattle.acl_entry.proofs.Rising.{found_alike, none_repeated}
use Rattle.acl_entry.proofs.draft.in_order.Goals as goal

pub returns-then-rises-clause-once : goal.returns-then-rises-clause-once
returns-then-rises-clause-once c =
    none_repeated c.args.entries.now c.in_ok-sorted.sorted.items c.in_ok-sorted.ensures.permutation (subst IsInOrder c.deref.ensures (c.if-rises.ensures.in_order refl))

pub returns-then-rises-clause-same : goal.returns-then-rises-clause-same
returns-then-rises-clause-same c =
    found_alike c.args.entries.now c.in_ok-sorted.sorted.items c.in_ok-sorted.ensures.permutation (subst IsInOrder c.deref.ensures (c.if-rises.ensures.in_order refl))
