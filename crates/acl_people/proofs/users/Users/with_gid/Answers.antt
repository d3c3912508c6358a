use Rattle.std.proofs.Common.{◌≡◌, length, map, slice_get, slice_set, Some, refl, sym, subst, ap, ◌∙◌, arith}
use Rattle.std.proofs.lemmas.List.{length-map}
use Rattle.acl_text.specs.declared.rows.PasswdRow.{PasswdRow}
use Rattle.acl_people.specs.NameTables.{AreCounted}
use Rattle.acl_people.specs.Entries.{user_entry, user_row}
use Rattle.acl_people.specs.Changes.{change_at, with_gid}
use Rattle.acl_people.proofs.Pointers.{value_at}
use Rattle.acl_people.proofs.Changed.{change_at-set, map-change_at}
use Rattle.acl_people.proofs.users.Users.with_gid.Goals as goal
use Rattle.acl_people.proofs.users.Users.with_gid.Goals.{In_ok-clone}

-- the rows after the change
rows : (c : In_ok-clone) → map (λ r. r.value) c.in_ok-rows.rows.items ≡ change_at c.args.user (with_gid c.args.gid) c.args.self.now
rows c =
    let old = c.self.inside.rows.items in
    let row = c.index-row.result.now.value in
    let as_long : length old ≡ length c.args.self.now = sym (length-map old (λ r. r.value)) ∙ ap length c.self.view_is in
    let at : slice_get c.args.self.now c.args.user ≡ Some row =
    ap (λ rs. slice_get rs c.args.user) (sym c.self.view_is) ∙ value_at (λ r. r.value) old c.args.user c.index-row.result.now (omega (arith, c.requires)) c.index-row.ensures
    in
    let changed : user_row c.in_ok-try_clone.field-0 c.deref-2.result.now.uid c.args.gid ≡ with_gid c.args.gid row =
    ap (λ n. user_row n c.deref-2.result.now.uid c.args.gid) (c.in_ok-try_clone.ensures ∙ ap (λ (r : PasswdRow). r.name) c.deref.ensures)
    ∙ ap (λ (r : PasswdRow). user_row row.name r.uid c.args.gid) c.deref-2.ensures
    in
    c.in_ok-rows.ensures
    ∙ ap (λ rs. slice_set (map (λ r. r.value) rs) c.args.user (user_row c.in_ok-try_clone.field-0 c.deref-2.result.now.uid c.args.gid)) c.deref-3.ensures.value
    ∙ ap (λ rs. slice_set rs c.args.user (user_row c.in_ok-try_clone.field-0 c.deref-2.result.now.uid c.args.gid)) c.self.view_is
    ∙ ap (λ r. slice_set c.args.self.now c.args.user r) changed
    ∙ sym (change_at-set c.args.user (with_gid c.args.gid) c.args.self.now row at)

pub returns : goal.returns
returns c = rows (goal.at.returns c).In_ok-clone

pub invariant_of-result : goal.invariant_of-result
invariant_of-result c =
    let entries : map user_entry (map (λ r. r.value) c.in_ok-rows.rows.items) ≡ map user_entry (map (λ r. r.value) c.self.inside.rows.items) =
    ap (λ rs. map user_entry rs) (rows (goal.at.invariant_of-result c).In_ok-clone)
    ∙ map-change_at user_entry c.args.user (with_gid c.args.gid) c.args.self.now (λ row. refl)
    ∙ ap (λ rs. map user_entry rs) (sym c.self.view_is)
    in record {
      all = c.in_ok-clone.ensures.cases ∙ c.self.invariant.all ∙ sym entries;
      counted = subst AreCounted (sym entries) c.self.invariant.counted;
    }
