use Rattle.std.proofs.Common.{option_map, ap, sym, ◌∙◌}
use Rattle.std.specs.List.{find}
use Rattle.std.specs.Str.{bytes_eq}
use Rattle.facl.specs.Tools.{ToolRow, row_view, tool_named}
use Rattle.facl.proofs.ToolTable.{found_view}
use Rattle.facl.proofs.tools.Tool.named.Goals as goal

pub returns-in-Some : goal.returns-in-Some
unfolding tool_named
returns-in-Some c =
    let p : ToolRow → _ = λ row. bytes_eq row.name c.args.name.now in
    ap (λ o. option_map (λ row. row.tool) (option_map row_view (option_map (λ row. row.now) o))) (sym c.in-Some.is)
    ∙ (ap (option_map (λ row. row.tool)) (found_view row_view p c.rows.result.now c.row_with_name.ensures)
    ∙ ap (λ all. option_map (λ row. row.tool) (find p all)) c.rows.ensures)

pub returns-in-None : goal.returns-in-None
unfolding tool_named
returns-in-None c =
    let p : ToolRow → _ = λ row. bytes_eq row.name c.args.name.now in
    ap (λ o. option_map (λ row. row.tool) (option_map row_view (option_map (λ row. row.now) o))) (sym c.in-None.is)
    ∙ (ap (option_map (λ row. row.tool)) (found_view row_view p c.rows.result.now c.row_with_name.ensures)
    ∙ ap (λ all. option_map (λ row. row.tool) (find p all)) c.rows.ensures)
