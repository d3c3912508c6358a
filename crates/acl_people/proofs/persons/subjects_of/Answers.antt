use Rattle.std.proofs.Common.{◌≡◌, ◌∷◌, ℕ, List, nat_cmp, map, ap, ◌∙◌, arith}
use Rattle.std.specs.FinSet as sets
use Rattle.std.proofs.lemmas.Grind.{common_steps}
use Rattle.acl_entry.specs.Person.{Person}
use Rattle.acl_text.specs.declared.rows.PasswdRow.{PasswdRow}
use Rattle.acl_people.specs.Members.{gids_at}
use Rattle.acl_people.specs.KnownPeople.{person}
use Rattle.acl_people.proofs.Gids.{person_is}
use Rattle.acl_people.proofs.Pointers.{map_take_more}
use Rattle.acl_people.proofs.persons.subjects_of.Goals as goal

-- a user whose row has the primary group, and whose name is in the rows of the others
abbrev person_with : PasswdRow → List ℕ → Person
person_with row gids = record { uid = row.uid; groups = sets.from_list {R = nat_cmp} (row.gid ∷ gids) }

pub loop-row-preserved : goal.loop-row-preserved
loop-row-preserved c =
    let groups = map (λ r. r.value) c.args.groups.now in
    let is : person_with c.deref.result.now (gids_at c.in_ok-members.members c.deref.result.now.name) ≡ person groups c.deref.result.now =
    ap (person_with c.deref.result.now) (c.in_ok-members.ensures c.deref.result.now.name)
    ∙ person_is groups c.deref.result.now
    in
    let more = map_take_more (λ r. r.value) c.args.users.now c.loop-row.row-index c.row-item.result c.loop-row-test.true c.row-item.is in
    grind (arith, common_steps, is, more)
