use Rattle.std.proofs.Common.{ℕ, List, [], ◌++◌, append-nil, sym, ap, subst, ◌∙◌}
use Rattle.std.specs.Prelude.{unwrap_or}
use Rattle.acl_names.specs.Appends.{Appends}
use Rattle.facl_answers.specs.BothStates.{row_of_class}
use Rattle.facl_answers.specs.Inner.{lines_between}
use Rattle.facl_answers.specs.PathTexts.{text_in}
use Rattle.facl_answers.proofs.BothLines.{same_rows}
use Rattle.facl_answers.proofs.changes.push_file.Goals as goal

pub returns : goal.returns
returns c =
    let path = c.deref.ensures.value ∙ c.in_ok-path.ensures in
    let had = c.row_or_none-had.ensures ∙ ap (λ o. unwrap_or o []) c.in_ok-before.ensures in
    let has = c.row_or_none-has.ensures ∙ ap (λ o. unwrap_or o []) c.in_ok-after.ensures in
    subst (λ (lines : List ℕ). Appends c.push_rows.result c.args.text.now c.push_rows.new.text lines) (λ i. lines_between c.args.users.now.list.now (path i) (had i) (has i)) c.push_rows.ensures

pub returns-then-keeps_row : goal.returns-then-keeps_row
returns-then-keeps_row c =
    let text = text_in c.args.trees.0.now c.args.trees.1.now c.args.file.0.now in
    let after = unwrap_or (row_of_class c.args.both.now.after.0 c.args.file.1.1) [] in
    let none = ap (λ row. lines_between c.args.users.now.list.now text (unwrap_or row []) after) (c.keeps_row.ensures c.if-keeps_row.true)
    ∙ same_rows c.args.users.now.list.now (c.requires c.if-users.true) text after in
    sym (append-nil c.args.text.now.items) ∙ ap (λ lines. c.args.text.now.items ++ lines) (sym none)
