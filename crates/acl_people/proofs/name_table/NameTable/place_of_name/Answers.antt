use Rattle.std.proofs.Common.{position, sym, ap, ◌∙◌}
use Rattle.acl_people.specs.NameTables.{is_name}
use Rattle.acl_people.proofs.Places.{position-map}
use Rattle.acl_people.proofs.name_table.NameTable.place_of_name.Goals as goal

pub returns : goal.returns
returns c =
    let p = is_name c.args.name.now in
    c.get_index_of.ensures.index
    ∙ position-map _ (λ e. e.0) c.self.inside.names.entries
    ∙ sym (position-map p (λ e. (e.0.items, e.1)) c.self.inside.names.entries)
    ∙ ap (λ es. position p es) c.self.view_is
