use Rattle.std.proofs.Common.{refl, ap, ◌∙◌, arith}
use Rattle.kinds.specs.Numbered.{Kept, entries_in}
use Rattle.path_classes.specs.declared.label_row.LabelRow.{LabelRow}
use Rattle.acl_rights.specs.KindRows.{each_row, without_at}
use Rattle.acl_rights.proofs.RowsOfKinds.{sum_of_each}
use Rattle.acl_rights.proofs.kind_rows.KindRows.without_user.Goals as goal

pub renewed-requires : goal.renewed-requires
renewed-requires c = let sum = sum_of_each 0 (entries_in c.rows-before.result.now) in record { room = omega (arith, sum); tags = λ x. refl }

pub with_all_rows-requires : goal.with_all_rows-requires
with_all_rows-requires c = c.in_ok-renewed.ensures.paths ∙ ap (λ (k : Kept LabelRow). k.1) c.rows-before.ensures

pub returns : goal.returns
returns c =
    ap (λ (k : Kept LabelRow). entries_in k) c.in_ok-rows.ensures
    ∙ c.in_ok-renewed.ensures.entries
    ∙ ap (λ (k : Kept LabelRow). each_row (without_at c.args.at) (entries_in k)) c.rows-before.ensures
