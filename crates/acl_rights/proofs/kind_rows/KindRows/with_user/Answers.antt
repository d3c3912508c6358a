use Rattle.std.proofs.Common.{length, refl, ap, ◌∙◌, arith}
use Rattle.kinds.specs.Numbered.{Kept, entries_in}
use Rattle.path_classes.specs.declared.label_row.LabelRow.{LabelRow}
use Rattle.acl_rights.specs.KindRows.{each_row, with_last}
use Rattle.acl_rights.proofs.RowsOfKinds.{sum_of_each}
use Rattle.acl_rights.proofs.kind_rows.KindRows.with_user.Goals as goal

pub renewed-requires : goal.renewed-requires
renewed-requires g c =
    let sum = sum_of_each 1 (entries_in c.rows-before.result.now) in
    let long = ap (λ (k : Kept LabelRow). length (entries_in k)) c.rows-before.ensures in
    record { room = omega (arith, sum, long, c.requires); tags = λ x. refl }

pub with_all_rows-requires : goal.with_all_rows-requires
with_all_rows-requires g c = c.in_ok-renewed.ensures.paths ∙ ap (λ (k : Kept LabelRow). k.1) c.rows-before.ensures

pub returns-in_err-renewed-clause-at_most : goal.returns-in_err-renewed-clause-at_most
returns-in_err-renewed-clause-at_most g c =
    let sum = sum_of_each 1 (entries_in c.rows-before.result.now) in
    let long = ap (λ (k : Kept LabelRow). length (entries_in k)) c.rows-before.ensures in
    omega (arith, sum, long, c.renewed.ensures.at_most)

pub returns-in_err-rows-clause-at_most : goal.returns-in_err-rows-clause-at_most
returns-in_err-rows-clause-at_most g c =
    let sum = sum_of_each 1 (entries_in c.rows-before.result.now) in
    let long = ap (λ (k : Kept LabelRow). length (entries_in k)) c.rows-before.ensures in
    omega (arith, sum, long, c.in_ok-renewed.ensures.at_most)

pub returns-clause-at_most : goal.returns-clause-at_most
returns-clause-at_most g c =
    let sum = sum_of_each 1 (entries_in c.rows-before.result.now) in
    let long = ap (λ (k : Kept LabelRow). length (entries_in k)) c.rows-before.ensures in
    omega (arith, sum, long, c.in_ok-renewed.ensures.at_most)

pub returns-clause-rows : goal.returns-clause-rows
returns-clause-rows g c =
    ap (λ (k : Kept LabelRow). entries_in k) c.in_ok-rows.ensures
    ∙ c.in_ok-renewed.ensures.entries
    ∙ ap (λ (k : Kept LabelRow). each_row (with_last g.J.Judge.verdict_of c.args.user.now) (entries_in k)) c.rows-before.ensures
