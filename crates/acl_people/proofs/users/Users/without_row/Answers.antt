use Rattle.std.proofs.Common.{◌≡◌, ◌<◌, length, map, sym, subst, ap, ◌∙◌}
use Rattle.std.specs.List.{remove}
use Rattle.std.proofs.lemmas.List.{length-map}
use Rattle.acl_names.proofs.Basics.{same_values}
use Rattle.acl_people.specs.NameTables.{AreCounted}
use Rattle.acl_people.specs.Entries.{user_entry}
use Rattle.acl_people.proofs.Pointers.{map-remove}
use Rattle.acl_people.proofs.Counted.{counted_remove}
use Rattle.acl_people.proofs.users.Users.without_row.Goals as goal
use Rattle.acl_people.proofs.users.Users.without_row.Goals.{After-remove-gone}

-- the rows without one
rows : (c : After-remove-gone) → map (λ r. r.value) c.remove-gone.new.self.items ≡ remove c.args.self.now c.args.user
rows c =
    ap (λ rs. map (λ r. r.value) rs) c.remove-gone.ensures.items
    ∙ map-remove (λ r. r.value) c.args.user c.in_ok-rows.rows.items
    ∙ ap (λ rs. remove rs c.args.user) (same_values (λ r. r.value) c.self.inside.rows.items c.in_ok-rows.rows.items c.in_ok-rows.ensures.cases.0 ∙ c.self.view_is)

pub invariant_of-result : goal.invariant_of-result
invariant_of-result c =
    let old = c.args.self.now in
    let are = rows (goal.at.invariant_of-result c).After-remove-gone in
    let entries : map user_entry (map (λ r. r.value) c.remove-gone.new.self.items) ≡ remove (map user_entry old) c.args.user =
    ap (λ rs. map user_entry rs) are ∙ map-remove user_entry c.args.user old
    in
    let within : c.args.user < length (map user_entry old) = subst (λ n. c.args.user < n) (sym (length-map old user_entry)) c.requires in
    let table : c.self.inside.name_table.value ≡ map user_entry old = c.self.invariant.all ∙ ap (λ rs. map user_entry rs) c.self.view_is in
    record {
      all = c.in_ok-name_table.ensures.ok ∙ c.in_ok-without.ensures ∙ ap (λ es. remove es c.args.user) (c.deref.ensures ∙ table) ∙ sym entries;
      counted = subst AreCounted (sym entries) (counted_remove (map user_entry old) c.args.user within (subst (λ rs. AreCounted (map user_entry rs)) c.self.view_is c.self.invariant.counted));
    }

pub returns : goal.returns
returns c = rows (goal.at.returns c).After-remove-gone
