use Rattle.std.proofs.Common.{◌≡◌, ◌++◌, ◌∷◌, [], List, true, false, cond, length, Vec, Global, map, ℕ, position, sym, ap, subst, ◌∙◌}
use Rattle.std.proofs.lemmas.List.{length-map}
use Rattle.acl_people.specs.NameTables.{Named, is_name}
use Rattle.acl_people.specs.Kept.{has_note, notes_of, AreInOrder, AreSorted}
use Rattle.acl_people.proofs.NotesOfNames.{note, noted_more}
use Rattle.acl_people.proofs.name_table.NameTable.with.Goals as goal

abbrev seen : Vec ℕ Global × ℕ → Named
seen e = (e.0.items, e.1)

pub noted-requires : goal.noted-requires
noted-requires c = subst AreInOrder (sym c.deref.ensures.value) c.self.invariant.0.in_order

pub noted-requires-2 : goal.noted-requires-2
noted-requires-2 c = subst AreInOrder (sym c.deref-2.ensures.value) c.self.invariant.1.in_order

pub with_name-requires : goal.with_name-requires
with_name-requires c = ap (λ es. position (is_name c.args.name.now) es) c.self.view_is ∙ c.requires

pub invariant_of-result : goal.invariant_of-result
invariant_of-result c =
    let es : List Named = map seen c.self.inside.names.entries in
    let y : Named = (c.args.name.now, c.args.id) in
    let place = c.len-place.result in
    let last : place ≡ length es = c.len-place.ensures.len ∙ sym (length-map c.self.inside.names.entries seen) in
    let named : map seen c.in_ok-names.names.entries ≡ es ++ y ∷ [] = c.in_ok-names.ensures in
    let by_id = c.in_ok-by_id.by_id.items in
    let shown = c.in_ok-shown.shown.items in (
      subst (λ l. AreSorted (notes_of true l) by_id) (sym named)
          (noted_more true es y place c.self.inside.by_id.items by_id last c.self.invariant.0
          (subst (λ ns. AreSorted (ns ++ cond (has_note true y) (note y place ∷ []) []) by_id) c.deref.ensures.value c.in_ok-by_id.ensures)),
      subst (λ l. AreSorted (notes_of false l) shown) (sym named)
          (noted_more false es y place c.self.inside.shown.items shown last c.self.invariant.1
          (subst (λ ns. AreSorted (ns ++ cond (has_note false y) (note y place ∷ []) []) shown) c.deref-2.ensures.value c.in_ok-shown.ensures)),
    )

pub returns : goal.returns
returns c = c.in_ok-names.ensures ∙ ap (λ es. es ++ (c.args.name.now, c.args.id) ∷ []) c.self.view_is
