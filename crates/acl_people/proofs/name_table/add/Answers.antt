use Rattle.std.proofs.Common.{◌++◌, ◌∷◌, [], Vec, Global, map, ℕ, sym, ap, ◌∙◌}
use Rattle.std.specs.Str.{bytes_eq}
use Rattle.acl_people.specs.NameTables.{Named, is_name}
use Rattle.acl_people.proofs.NamedRows.{insert-absent}
use Rattle.acl_people.proofs.name_table.add.Goals as goal

abbrev seen : Vec ℕ Global × ℕ → Named
seen e = (e.0.items, e.1)

-- the name goes last
pub returns : goal.returns
returns c =
    ap (λ es. map seen es) c.in_ok-insert.ensures.entries
    ∙ insert-absent _ (is_name c.args.name.now) seen c.in_ok-from_slice.field-0 c.args.id
    (λ e. ap (λ k. bytes_eq k e.0.items) (sym c.in_ok-from_slice.ensures.items)) c.args.names.now.entries c.requires
    ∙ ap (λ k. map seen c.args.names.now.entries ++ (k, c.args.id) ∷ []) c.in_ok-from_slice.ensures.items
