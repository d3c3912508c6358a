use Rattle.std.proofs.Common.{◌∙◌}
use Rattle.acl_people.specs.NameTables.{is_name}
use Rattle.acl_people.proofs.NamedRows.{found_at, not_found}
use Rattle.acl_people.proofs.name_table.NameTable.id_named.Goals as goal

pub returns-in_err-place : goal.returns-in_err-place
returns-in_err-place c = c.from_residual.ensures ∙ not_found (is_name c.args.name.now) (λ e. e.1) c.args.self.now c.in_err-place.ensures

pub returns : goal.returns
returns c = found_at (is_name c.args.name.now) (λ e. e.1) c.args.self.now c.in_ok-place.place _ c.in_ok-place.ensures c.id_at.ensures
