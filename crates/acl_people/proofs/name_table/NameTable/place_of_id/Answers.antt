use Rattle.std.proofs.Common.{true, position, sym, ap, subst, ◌∙◌}
use Rattle.acl_people.specs.NameTables.{is_id}
use Rattle.acl_people.specs.Kept.{named_in, notes_of, first_place, AreInOrder}
use Rattle.acl_people.proofs.NotesInOrder.{first_sorted}
use Rattle.acl_people.proofs.NotesOfNames.{noted_first_of_all}
use Rattle.acl_people.proofs.name_table.NameTable.place_of_id.Goals as goal

pub first_of_id-requires : goal.first_of_id-requires
first_of_id-requires c = subst AreInOrder (sym c.deref.ensures.value) c.self.invariant.0.in_order

pub returns : goal.returns
returns c =
    let es = named_in c.self.inside.names.entries in
    c.first_of_id.ensures
    ∙ ap (first_place c.args.id) c.deref.ensures.value
    ∙ first_sorted c.args.id (notes_of true es) c.self.inside.by_id.items c.self.invariant.0
    ∙ noted_first_of_all c.args.id es
    ∙ ap (λ l. position (is_id c.args.id) l) c.self.view_is
