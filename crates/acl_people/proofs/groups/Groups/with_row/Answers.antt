use Rattle.std.proofs.Common.{◌≡◌, map, slice_set, sym, subst, ap, ◌∙◌}
use Rattle.acl_people.specs.NameTables.{AreCounted}
use Rattle.acl_people.specs.Entries.{group_entry}
use Rattle.acl_people.proofs.groups.Groups.with_row.Goals as goal
use Rattle.acl_people.proofs.groups.Groups.with_row.Goals.{In_ok-clone}

-- the rows after the change
rows : (c : In_ok-clone) → map (λ r. r.value) c.in_ok-rows.rows.items ≡ slice_set c.args.self.now c.args.at c.args.row
rows c =
    c.in_ok-rows.ensures
    ∙ ap (λ rs. slice_set (map (λ r. r.value) rs) c.args.at c.args.row) c.deref.ensures.value
    ∙ ap (λ rs. slice_set rs c.args.at c.args.row) c.self.view_is

pub returns : goal.returns
returns c = rows (goal.at.returns c).In_ok-clone

pub invariant_of-result : goal.invariant_of-result
invariant_of-result c =
    let entries : map group_entry (map (λ r. r.value) c.in_ok-rows.rows.items) ≡ map group_entry (map (λ r. r.value) c.self.inside.rows.items) =
    ap (λ rs. map group_entry rs) (rows (goal.at.invariant_of-result c).In_ok-clone)
    ∙ c.requires.entry
    ∙ ap (λ rs. map group_entry rs) (sym c.self.view_is)
    in record {
      all = c.in_ok-clone.ensures.cases ∙ c.self.invariant.all ∙ sym entries;
      counted = subst AreCounted (sym entries) c.self.invariant.counted;
    }
