use Rattle.std.proofs.Common.{◌≡◌, ℕ, List, Option, length, ap, sym, subst, ◌∙◌}
use Rattle.std.specs.Prelude.{IfSome}
use Rattle.std.proofs.lemmas.List.{length-map}
use Rattle.kinds.specs.Numbered.{Numbers}
use Rattle.kinds.specs.Placed.{placed}
use Rattle.kinds.specs.Given.{shared_nodes, HaveNodes}
use Rattle.path_classes.specs.declared.label_row.LabelRow.{LabelRow}
use Rattle.acl_rights.specs.KeptLabels.{row_by, rows_by, HaveRows}
use Rattle.acl_rights.proofs.KeptLabels.{rows_have, rows_placed}
use Rattle.acl_rights.proofs.kept_labels.kept_labels.Goals as goal

pub with_nodes-requires-clause-long : goal.with_nodes-requires-clause-long
with_nodes-requires-clause-long c =
    let rows : List (Option LabelRow) = shared_nodes c.args.rows.now in
    let numbers : List (Option ℕ) = c.in-Some.numbers.items in
    let own : shared_nodes c.deref-2.result.now ≡ rows_by rows numbers =
    ap (λ l. shared_nodes l) c.deref-2.ensures.value ∙ c.in_ok-own.ensures ∙ ap (rows_by rows) c.deref.ensures.value in
    sym (length-map c.deref-2.result.now _) ∙ ap length own ∙ length-map numbers (row_by rows)
    ∙ subst (λ o. IfSome o (λ ns. length ns.items ≡ length c.args.labels.now.0.0)) c.in-Some.is c.in_ok-some.ensures.long

pub with_nodes-requires-clause-used : goal.with_nodes-requires-clause-used
with_nodes-requires-clause-used c =
    let rows : List (Option LabelRow) = shared_nodes c.args.rows.now in
    let numbers : List (Option ℕ) = c.in-Some.numbers.items in
    let es : Numbers = c.args.labels.now.1 in
    let fs : Numbers = c.args.files.now.1 in
    let have : HaveRows rows numbers es fs = subst (λ o. IfSome o (λ ns. HaveRows rows ns.items es fs)) c.in-Some.is c.in_ok-some.ensures.rows in
    let own : shared_nodes c.deref-2.result.now ≡ rows_by rows numbers =
    ap (λ l. shared_nodes l) c.deref-2.ensures.value ∙ c.in_ok-own.ensures ∙ ap (rows_by rows) c.deref.ensures.value in
    subst (λ (nodes : List (Option LabelRow)). HaveNodes nodes es) (sym own) (rows_have rows numbers es fs have)

pub returns-clause-rows : goal.returns-clause-rows
returns-clause-rows c =
    let rows : List (Option LabelRow) = shared_nodes c.args.rows.now in
    let numbers : List (Option ℕ) = c.in-Some.numbers.items in
    let labels = c.args.labels.now in
    let files = c.args.files.now in
    let have : HaveRows rows numbers labels.1 files.1 = subst (λ o. IfSome o (λ ns. HaveRows rows ns.items labels.1 files.1)) c.in-Some.is c.in_ok-some.ensures.rows in
    let own : shared_nodes c.deref-2.result.now ≡ rows_by rows numbers =
    ap (λ l. shared_nodes l) c.deref-2.ensures.value ∙ c.in_ok-own.ensures ∙ ap (rows_by rows) c.deref.ensures.value in
    c.in_ok-new.ensures.entries
    ∙ ap (λ (nodes : List (Option LabelRow)). placed nodes labels.1) own
    ∙ rows_placed rows numbers labels.0 files.0 labels.1 files.1 c.kinds-labels.ensures.sound.used c.kinds-files.ensures.sound.used (c.requires c.if-not-same.false) have

pub returns-clause-paths : goal.returns-clause-paths
returns-clause-paths c = c.in_ok-new.ensures.paths
