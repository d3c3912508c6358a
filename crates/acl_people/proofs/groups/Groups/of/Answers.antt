use Rattle.std.proofs.Common.{map, sym, ap, subst, ◌∙◌}
use Rattle.acl_people.specs.NameTables.{AreNames, AreCounted}
use Rattle.acl_people.specs.Entries.{group_entry}
use Rattle.acl_people.proofs.groups.Groups.of.Goals as goal

pub shared-requires : goal.shared-requires
shared-requires c = subst (λ rows. AreNames (map group_entry rows)) (sym c.deref.ensures.value) c.requires.names

pub invariant_of-result : goal.invariant_of-result
invariant_of-result c = record {
  all = c.in_ok-name_table.ensures ∙ ap (λ rows. map group_entry rows) (c.deref.ensures.value ∙ sym c.in_ok-rows.ensures);
  counted = subst (λ rows. AreCounted (map group_entry rows)) (sym c.in_ok-rows.ensures) c.requires;
}
