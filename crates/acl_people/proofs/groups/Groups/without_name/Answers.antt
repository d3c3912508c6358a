use Rattle.std.proofs.Common.{◌≡◌, length, map, slice_get, slice_set, Some, refl, sym, ap, ◌∙◌, arith}
use Rattle.std.proofs.lemmas.List.{length-map}
use Rattle.std.proofs.lemmas.Result.{IfOk-weaker}
use Rattle.acl_people.specs.Entries.{group_entry}
use Rattle.acl_people.specs.Changes.{change_at, name_removed}
use Rattle.acl_people.proofs.Pointers.{value_at}
use Rattle.acl_people.proofs.Changed.{change_at-set, map-change_at}
use Rattle.acl_people.proofs.groups.Groups.without_name.Goals as goal
use Rattle.acl_people.proofs.groups.Groups.without_name.Goals.{In_ok-row}

-- the row that is changed
set : (c : In_ok-row) → change_at c.args.at (name_removed c.args.name.now) c.args.self.now ≡ slice_set c.args.self.now c.args.at c.in_ok-row.row
set c =
    let rows = c.self.inside.rows.items in
    let as_long : length rows ≡ length c.args.self.now = sym (length-map rows (λ r. r.value)) ∙ ap length c.self.view_is in
    let at : slice_get c.args.self.now c.args.at ≡ Some c.index.result.now.value =
    ap (λ rs. slice_get rs c.args.at) (sym c.self.view_is) ∙ value_at (λ r. r.value) rows c.args.at c.index.result.now (omega (arith, c.requires)) c.index.ensures
    in
    change_at-set c.args.at (name_removed c.args.name.now) c.args.self.now c.index.result.now.value at
    ∙ ap (λ row. slice_set c.args.self.now c.args.at row) (ap (name_removed c.args.name.now) (sym c.deref.ensures) ∙ sym c.in_ok-row.ensures)

pub with_row-requires-clause-entry : goal.with_row-requires-clause-entry
with_row-requires-clause-entry c = ap (λ rows. map group_entry rows) (sym (set c)) ∙ map-change_at group_entry c.args.at (name_removed c.args.name.now) c.args.self.now (λ row. refl)

pub returns : goal.returns
returns c =
    let old = c.args.self.now in
    IfOk-weaker c.with_row.result (λ groups. groups ≡ slice_set old c.args.at c.in_ok-row.row) (λ groups. groups ≡ change_at c.args.at (name_removed c.args.name.now) old)
    (λ groups is. is ∙ sym (set (goal.at.returns c).In_ok-row))
    c.with_row.ensures
