use Rattle.std.proofs.Common.{◌*◌, length, refl, ap, ◌∙◌, arith}
use Rattle.kinds.specs.Numbered.{Kept, entries_in}
use Rattle.kinds.specs.Renewed.{renewed}
use Rattle.path_classes.specs.declared.label_row.LabelRow.{LabelRow}
use Rattle.acl_rights.specs.KindRows.{node_row}
use Rattle.acl_rights.proofs.RowsOfKinds.{sum_of_each}
use Rattle.acl_rights.proofs.kind_rows.KindRows.of_files.Goals as goal

pub renewed-requires : goal.renewed-requires
renewed-requires g c =
    let u = length c.args.users.now in
    let sum = sum_of_each u (entries_in c.files_by_path.result.now) ∙ ap (λ es. length es * u) c.files_by_path.ensures.all in
    record { room = omega (arith, sum, c.requires.room) }

pub returns-in_err-map-clause-at_most : goal.returns-in_err-map-clause-at_most
returns-in_err-map-clause-at_most g c =
    let u = length c.args.users.now in
    let sum = sum_of_each u (entries_in c.files_by_path.result.now) ∙ ap (λ es. length es * u) c.files_by_path.ensures.all in
    omega (arith, sum, c.renewed.ensures.at_most)

pub returns-clause-asked : goal.returns-clause-asked
returns-clause-asked g c =
    let u = length c.args.users.now in
    let sum = sum_of_each u (entries_in c.files_by_path.result.now) ∙ ap (λ es. length es * u) c.files_by_path.ensures.all in
    let exact = c.in_ok-map.ensures.exact refl in
    omega (arith, sum, exact)

pub returns-clause-at_most : goal.returns-clause-at_most
returns-clause-at_most g c =
    let u = length c.args.users.now in
    let sum = sum_of_each u (entries_in c.files_by_path.result.now) ∙ ap (λ es. length es * u) c.files_by_path.ensures.all in
    omega (arith, sum, c.in_ok-map.ensures.at_most)

pub returns-in_err-hints-clause-at_most : goal.returns-in_err-hints-clause-at_most
returns-in_err-hints-clause-at_most g c =
    let u = length c.args.users.now in
    let sum = sum_of_each u (entries_in c.files_by_path.result.now) ∙ ap (λ es. length es * u) c.files_by_path.ensures.all in
    omega (arith, sum, c.in_ok-map.ensures.at_most)

pub returns-in_err-rows-clause-at_most : goal.returns-in_err-rows-clause-at_most
returns-in_err-rows-clause-at_most g c =
    let u = length c.args.users.now in
    let sum = sum_of_each u (entries_in c.files_by_path.result.now) ∙ ap (λ es. length es * u) c.files_by_path.ensures.all in
    omega (arith, sum, c.in_ok-map.ensures.at_most)

pub returns-in_err-tagged-clause-at_most : goal.returns-in_err-tagged-clause-at_most
returns-in_err-tagged-clause-at_most g c =
    let u = length c.args.users.now in
    let sum = sum_of_each u (entries_in c.files_by_path.result.now) ∙ ap (λ es. length es * u) c.files_by_path.ensures.all in
    omega (arith, sum, c.in_ok-map.ensures.at_most)

pub returns-clause-rows : goal.returns-clause-rows
returns-clause-rows g c =
    ap (λ (kept : Kept LabelRow). entries_in kept) (c.in_ok-rows.ensures ∙ c.in_ok-tagged.ensures)
    ∙ c.in_ok-map.ensures.entries
    ∙ ap (renewed (node_row g.J.Judge.verdict_of c.args.users.now)) c.files_by_path.ensures.all
