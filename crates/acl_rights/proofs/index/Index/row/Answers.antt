use Rattle.std.proofs.Common.{◌≡◌, Some, None, sym, ap, ◌∙◌}
use Rattle.std.specs.Option.{option_copied}
use Rattle.std.specs.FinMap.{find}
use Rattle.acl_names.specs.Paths.{path_cmp}
use Rattle.acl_rights.specs.Tables.{VerdictTable}
use Rattle.path_classes.specs.Rows.{Rows}
use Rattle.acl_rights.proofs.Asked.{row_is}
use Rattle.acl_rights.proofs.index.Index.row.Goals as goal

pub returns-in-Some : goal.returns-in-Some
returns-in-Some g c =
    let p = c.args.path.now in
    let same = ap (λ (t : VerdictTable). t.rows) (c.now.view_is ∙ c.self.view_is) in
    let here : Some c.in-Some.cells.now ≡ find path_cmp p c.args.self.now.rows = sym (ap option_copied c.in-Some.is) ∙ c.row.ensures ∙ ap (λ (rows : Rows). find path_cmp p rows) same in
    let row = ap Some c.as_slice.ensures ∙ here in
    record { row = row; verdicts = λ s whole. row ∙ row_is g.J.Judge.verdict_of s c.args.self.now whole p }

pub returns-in-None : goal.returns-in-None
returns-in-None g c =
    let p = c.args.path.now in
    let same = ap (λ (t : VerdictTable). t.rows) (c.now.view_is ∙ c.self.view_is) in
    let here : None ≡ find path_cmp p c.args.self.now.rows = sym (ap option_copied c.in-None.is) ∙ c.row.ensures ∙ ap (λ (rows : Rows). find path_cmp p rows) same in
    record { row = here; verdicts = λ s whole. here ∙ row_is g.J.Judge.verdict_of s c.args.self.now whole p }
