use Rattle.std.proofs.Common.{ap, ◌∙◌}
use Rattle.std.specs.Option.{option_copied}
use Rattle.acl_people.specs.NameTables.{prints}
use Rattle.acl_people.proofs.NamedRows.{found_at, not_found}
use Rattle.acl_people.proofs.name_table.NameTable.name_shown.Goals as goal

pub returns-in_err-place : goal.returns-in_err-place
returns-in_err-place c = ap (λ o. option_copied o) c.from_residual.ensures ∙ not_found (prints c.args.id) (λ e. e.0) c.args.self.now c.in_err-place.ensures

pub returns : goal.returns
returns c = found_at (prints c.args.id) (λ e. e.0) c.args.self.now c.in_ok-place.place _ c.in_ok-place.ensures c.name_at.ensures
