use Rattle.std.proofs.Common.{◌≡◌, map, sym, subst, ap, ◌∙◌}
use Rattle.std.proofs.lemmas.Simd.{map-map}
use Rattle.acl_people.specs.NameTables.{AreNames}
use Rattle.acl_people.specs.Entries.{user_entry}
use Rattle.acl_people.proofs.users.Users.of.Goals as goal
use Rattle.acl_people.proofs.users.Users.of.Goals.{After-deref}

-- the names and ids, by the pointers to the rows
named : (c : After-deref) → map user_entry (map (λ r. r.value) c.args.rows.items) ≡ map (λ r. user_entry r.value) c.deref.result.now
named c = map-map user_entry (λ r. r.value) c.args.rows.items ∙ ap (λ rows. map (λ r. user_entry r.value) rows) (sym c.deref.ensures.value)

pub shared-requires : goal.shared-requires
shared-requires c = subst AreNames (named (goal.at.shared-requires c).After-deref) c.requires.names

pub invariant_of-result : goal.invariant_of-result
invariant_of-result c = record { all = c.in_ok-name_table.ensures ∙ sym (named (goal.at.invariant_of-result c).After-deref); counted = c.requires }
