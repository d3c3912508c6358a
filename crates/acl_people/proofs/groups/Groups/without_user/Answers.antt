use Rattle.std.proofs.Common.{◌≡◌, map, sym, subst, ap, ◌∙◌}
use Rattle.std.proofs.lemmas.Simd.{map-map}
use Rattle.acl_people.specs.NameTables.{AreCounted}
use Rattle.acl_people.specs.Entries.{group_entry}
use Rattle.acl_people.specs.Changes.{name_removed}
use Rattle.acl_people.proofs.groups.Groups.without_user.Goals as goal

pub invariant_of-result : goal.invariant_of-result
invariant_of-result c =
    let old = map (λ r. r.value) c.self.inside.rows.items in
    let entries : map group_entry (map (λ r. r.value) c.in_ok-rows.rows.items) ≡ map group_entry old =
    ap (λ rows. map group_entry rows) (c.in_ok-rows.ensures ∙ ap (λ rows. map (name_removed c.args.name.now) (map (λ r. r.value) rows)) c.deref.ensures.value)
    ∙ map-map group_entry (name_removed c.args.name.now) old
    in record {
      all = c.in_ok-clone.ensures.cases ∙ c.self.invariant.all ∙ sym entries;
      counted = subst AreCounted (sym entries) c.self.invariant.counted;
    }
