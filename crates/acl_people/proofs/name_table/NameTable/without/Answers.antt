use Rattle.std.proofs.Common.{◌≡◌, List, true, false, Vec, Global, map, ℕ, ap, ◌∙◌}
use Rattle.std.specs.List.{remove}
use Rattle.acl_people.specs.NameTables.{Named}
use Rattle.acl_people.specs.Kept.{without_place}
use Rattle.acl_people.proofs.Pointers.{map-remove}
use Rattle.acl_people.proofs.NotesOfNames.{noted_without}
use Rattle.acl_people.proofs.name_table.NameTable.without.Goals as goal
use Rattle.acl_people.proofs.name_table.NameTable.without.Goals.{After-shift_remove_index-gone}

abbrev seen : Vec ℕ Global × ℕ → Named
seen e = (e.0.items, e.1)

-- the names without one
named : (c : After-shift_remove_index-gone) → map seen c.shift_remove_index-gone.new.self.entries ≡ remove (map seen c.self.inside.names.entries) c.args.at
named c =
    ap (λ es. map seen es) c.shift_remove_index-gone.ensures.entries
    ∙ map-remove seen c.args.at c.in_ok-names.names.entries
    ∙ ap (λ es. remove es c.args.at) c.in_ok-names.ensures

pub invariant_of-result : goal.invariant_of-result
invariant_of-result c =
    let es : List Named = map seen c.self.inside.names.entries in
    let at = c.args.at in
    let left = named (goal.at.invariant_of-result c).After-shift_remove_index-gone in (
      noted_without true es at c.self.inside.by_id.items c.in_ok-by_id.by_id.items _ c.self.invariant.0 (c.in_ok-by_id.ensures ∙ ap (without_place at) c.deref.ensures.value) left,
      noted_without false es at c.self.inside.shown.items c.in_ok-shown.shown.items _ c.self.invariant.1 (c.in_ok-shown.ensures ∙ ap (without_place at) c.deref-2.ensures.value) left,
    )

pub returns : goal.returns
returns c = named (goal.at.returns c).After-shift_remove_index-gone ∙ ap (λ es. remove es c.args.at) c.self.view_is
