use Rattle.std.proofs.Common.{◌∙◌, ap, ℕ, Option, length}
use Rattle.std.specs.Prelude.{unwrap_or}
use Rattle.facl_script.specs.Rows.{operand_view}
use Rattle.facl_script.proofs.Named.{place_found}
use Rattle.facl_script.proofs.tool_words.operand_place.Goals as goal

pub returns : goal.returns
returns c =
    c.unwrap_or.ensures
    ∙ (ap (λ (o : Option ℕ). unwrap_or o (length c.args.rows.now)) c.find_operand.ensures
    ∙ place_found operand_view (λ row. row.id) c.args.name.now c.args.rows.now)
