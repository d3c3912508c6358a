use Rattle.std.proofs.Common.{◌≡◌, ◌∷◌, ◌++◌, [], map, sym, subst, ap, ◌∙◌}
use Rattle.std.proofs.lemmas.List.{map_push}
use Rattle.std.proofs.lemmas.Simd.{map-map}
use Rattle.acl_names.proofs.Basics.{same_values}
use Rattle.acl_people.specs.NameTables.{AreNames, AreCounted}
use Rattle.acl_people.specs.Entries.{user_entry}
use Rattle.acl_people.proofs.users.Users.with_row.Goals as goal
use Rattle.acl_people.proofs.users.Users.with_row.Goals.{After-deref-2}

-- the rows and one more
rows : (c : After-deref-2) → map (λ r. r.value) c.push.new.self.items ≡ c.args.self.now ++ c.args.row ∷ []
rows c =
    ap (λ rs. map (λ r. r.value) rs) c.in_ok-push.ensures.items
    ∙ map_push (λ r. r.value) c.in_ok-rows.rows.items c.in_ok-clone.field-0
    ∙ ap (λ rs. rs ++ c.in_ok-clone.field-0.value ∷ []) (same_values (λ r. r.value) c.self.inside.rows.items c.in_ok-rows.rows.items c.in_ok-rows.ensures.cases.0 ∙ c.self.view_is)
    ∙ ap (λ row. c.args.self.now ++ row ∷ []) (c.in_ok-clone.ensures.cases ∙ c.in_ok-row.ensures.ok)

-- their names and ids, by the pointers to the rows
named : (c : After-deref-2) → map (λ r. user_entry r.value) c.deref-2.result.now ≡ map user_entry (c.args.self.now ++ c.args.row ∷ [])
named c =
    ap (λ rs. map (λ r. user_entry r.value) rs) c.deref-2.ensures.value
    ∙ sym (map-map user_entry (λ r. r.value) c.push.new.self.items)
    ∙ ap (λ rs. map user_entry rs) (rows c)

pub with_row-requires-clause-names : goal.with_row-requires-clause-names
with_row-requires-clause-names c = subst AreNames (sym (named (goal.at.with_row-requires-clause-names c).After-deref-2)) c.requires.names

pub with_row-requires-clause-added : goal.with_row-requires-clause-added
with_row-requires-clause-added c =
    let old = c.args.self.now in
    let table : c.deref.result.now ≡ map user_entry old = c.deref.ensures ∙ c.self.invariant.all ∙ ap (λ rs. map user_entry rs) c.self.view_is in
    named (goal.at.with_row-requires-clause-added c).After-deref-2
    ∙ map_push user_entry old c.args.row
    ∙ (λ i. sym table i ++ user_entry (sym c.in_ok-row.ensures.ok i) ∷ [])

pub invariant_of-result : goal.invariant_of-result
invariant_of-result c =
    let are = rows (goal.at.invariant_of-result c).After-deref-2 in
    record {
      all = c.in_ok-name_table.ensures ∙ named (goal.at.invariant_of-result c).After-deref-2 ∙ sym (ap (λ rs. map user_entry rs) are);
      counted = subst (λ rs. AreCounted (map user_entry rs)) (sym are) c.requires;
    }

pub returns : goal.returns
returns c = rows (goal.at.returns c).After-deref-2
