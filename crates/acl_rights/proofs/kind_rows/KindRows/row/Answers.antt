use Rattle.std.proofs.Common.{ap, sym, ◌∙◌}
use Rattle.std.specs.Prelude.{option_map}
use Rattle.std.specs.Option.{option_copied}
use Rattle.std.specs.FinMap.{find}
use Rattle.acl_names.specs.Paths.{path_cmp}
use Rattle.kinds.specs.Numbered.{Kept, entries_in}
use Rattle.path_classes.specs.declared.label_row.LabelRow.{LabelRow}
use Rattle.path_classes.proofs.Maps.{find-values}
use Rattle.acl_rights.proofs.kind_rows.KindRows.row.Goals as goal

pub returns-in-Some : goal.returns-in-Some
returns-in-Some c =
    ap (option_map (λ (r : LabelRow). r.row)) (ap option_copied (sym c.in-Some.is) ∙ c.get.ensures
    ∙ ap (λ (k : Kept LabelRow). find path_cmp c.args.path.now (entries_in k)) c.rows-rows.ensures)
    ∙ sym (find-values (λ (r : LabelRow). r.row) c.args.path.now (entries_in c.args.self.now.rows))

pub returns-in-None : goal.returns-in-None
returns-in-None c =
    ap (option_map (λ (r : LabelRow). r.row)) (ap option_copied (sym c.in-None.is) ∙ c.get.ensures
    ∙ ap (λ (k : Kept LabelRow). find path_cmp c.args.path.now (entries_in k)) c.rows-rows.ensures)
    ∙ sym (find-values (λ (r : LabelRow). r.row) c.args.path.now (entries_in c.args.self.now.rows))
