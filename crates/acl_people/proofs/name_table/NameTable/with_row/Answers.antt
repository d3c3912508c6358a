use Rattle.std.proofs.Common.{◌∷◌, ◌++◌, [], position, sym, ap, subst, ◌∙◌}
use Rattle.acl_people.specs.NameTables.{is_name, AreNames}
use Rattle.acl_people.proofs.NamedRows.{new_name}
use Rattle.acl_people.proofs.name_table.NameTable.with_row.Goals as goal

pub with-requires : goal.with-requires
with-requires g c =
    ap (λ name. position (is_name name) c.args.self.now) c.name.ensures
    ∙ new_name c.args.self.now (g.R.NamedRow.named c.args.row.now) (subst AreNames c.requires.added c.requires.names)

pub returns : goal.returns
returns g c =
    c.in_ok-new.ensures.ok ∙ c.in_ok-name_table.ensures ∙ (λ i. c.args.self.now ++ (c.name.ensures i, c.id.ensures i) ∷ []) ∙ sym c.requires.added
