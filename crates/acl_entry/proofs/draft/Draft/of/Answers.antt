use Rattle.std.proofs.Common.{sym, ap, subst, ◌∙◌}
use Rattle.acl_entry.specs.Lists.{map_of, IsInOrder, HasIds}
use Rattle.acl_entry.proofs.Maps.{map_of-entries, in_order-entries}
use Rattle.acl_entry.proofs.draft.Draft.of.Goals as goal

pub invariant_of-result : goal.invariant_of-result
invariant_of-result c = record {
  in_order = subst IsInOrder (sym (c.in_ok-from_slice.ensures.ok ∙ c.entries.ensures.all)) (in_order-entries c.args.acl.now);
  ids = subst HasIds (sym c.in_ok-from_slice.ensures.ok) c.entries.ensures.ids;
}

pub returns-clause-ok : goal.returns-clause-ok
returns-clause-ok c = ap map_of (c.in_ok-from_slice.ensures.ok ∙ c.entries.ensures.all) ∙ map_of-entries c.args.acl.now
