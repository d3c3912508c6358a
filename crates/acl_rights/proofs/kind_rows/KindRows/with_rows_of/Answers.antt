use Rattle.std.proofs.Common.{◌≡◌, [], length, sym, ap, subst, ◌∙◌, arith}
use Rattle.std.specs.Prelude.{IfSome}
use Rattle.std.proofs.lemmas.Result.{IfOk-weaker}
use Rattle.kinds.specs.Given.{shared_nodes}
use Rattle.kinds.specs.Numbered.{Kept, entries_in}
use Rattle.kinds.specs.Placed.{placed}
use Rattle.path_classes.specs.declared.label_row.LabelRow.{LabelRow}
use Rattle.acl_rights.proofs.Counted.{few_counted, entries_long}
use Rattle.acl_rights.specs.KindRows.{AsManyAreSame}
use Rattle.acl_rights.proofs.kind_rows.KindRows.with_rows_of.Goals as goal

pub kept_labels-requires : goal.kept_labels-requires
kept_labels-requires c = λ h.
    subst (λ (k : Kept LabelRow). AsManyAreSame (entries_in k) (entries_in c.args.files.now)) (sym (c.map.ensures ∙ c.rows-before.ensures)) (c.requires.same h)

pub with_own_rows-requires : goal.with_own_rows-requires
with_own_rows-requires c =
    subst (λ o. IfSome o (λ (new : Kept LabelRow). new.1 ≡ c.map.result.now.1)) c.in-Some.is c.in_ok-kept.ensures.paths ∙ ap (λ (k : Kept LabelRow). k.1) (c.map.ensures ∙ c.rows-before.ensures)

pub returns-in-Some-clause-most : goal.returns-in-Some-clause-most
returns-in-Some-clause-most c =
    let nodes = shared_nodes c.args.nodes.now in
    let map : Kept LabelRow = c.in-Some.map in
    let made : entries_in map ≡ placed nodes c.args.files.now.1 =
    subst (λ o. IfSome o (λ (new : Kept LabelRow). entries_in new ≡ placed nodes c.args.files.now.1)) c.in-Some.is c.in_ok-kept.ensures.rows in
    let labels = entries_long map.0 map.1 c.kinds-labels.ensures.sound.used in
    let rows : length (placed nodes c.args.files.now.1) ≡ length c.args.files.now.1 = entries_long (nodes, []) c.args.files.now.1 c.requires.used in
    let files = entries_long c.args.files.now.0 c.args.files.now.1 c.kinds-files.ensures.sound.used in
    let same = ap length made in
    IfOk-weaker c.with_own_rows.result _ _ (λ new le. omega (arith, le, labels, rows, files, same)) c.with_own_rows.ensures.most

pub returns-clause-rows : goal.returns-clause-rows
returns-clause-rows c = ap (λ (k : Kept LabelRow). entries_in k) (c.in_ok-rows.ensures ∙ c.in_ok-tagged.ensures) ∙ c.in_ok-map.ensures.entries

pub returns-clause-least : goal.returns-clause-least
returns-clause-least c = λ differs same.
    let few = few_counted (λ e. differs e.0) c.in_ok-rows.rows.1 in
    let long : length c.in_ok-rows.rows.1 ≡ length c.args.files.now.1 =
    ap (λ (k : Kept LabelRow). length k.1) (c.in_ok-rows.ensures ∙ c.in_ok-tagged.ensures) ∙ ap length c.in_ok-map.ensures.paths in
    let files = entries_long c.args.files.now.0 c.args.files.now.1 c.kinds-files.ensures.sound.used in
    omega (arith, few, long, files, c.len.ensures)

pub returns-clause-most : goal.returns-clause-most
returns-clause-most c = omega (arith, c.len.ensures)
