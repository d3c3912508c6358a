use Rattle.std.proofs.Common.{◌≡◌, Option, Some, None, is_some, refl, ap, ◌∙◌}
use Rattle.std.specs.Borrow.{Bor}
use Rattle.std.specs.FinMap.{find}
use Rattle.std.specs.Option.{option_copied}
use Rattle.acl_names.specs.Paths.{path_cmp}
use Rattle.kinds.specs.Numbered.{Kept, entries_in}
use Rattle.path_classes.specs.declared.label_row.LabelRow.{LabelRow}
use Rattle.acl_rights.proofs.changed_rows.has_row.Goals as goal

copied : (o : Option (Bor LabelRow)) → is_some o ≡ is_some (option_copied o)
copied None = refl
copied (Some x) = refl

pub returns : goal.returns
returns c =
    c.is_some.ensures ∙ copied c.get.result
    ∙ ap is_some (c.get.ensures ∙ ap (λ (k : Kept LabelRow). find path_cmp c.args.path.now (entries_in k)) c.rows.ensures)
