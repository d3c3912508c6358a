use Rattle.std.proofs.Common.{◌∷◌, cond, sym, ap, ◌∙◌}
use Rattle.facl_counts.specs.Sums.{rows_with}
use Rattle.facl_counts.proofs.class_counts.takes_kind.Goals as goal

pub returns-in-Some : goal.returns-in-Some
returns-in-Some c = λ row rows.
    let rest = rows_with c.args.kind c.next.new.self rows in
    ap (λ es. rows_with c.args.kind es (row ∷ rows)) c.in-Some.ensures.steps ∙ ap (λ b. cond b (row ∷ rest) rest) (sym c.is_of_kind.ensures)

pub returns-in-None : goal.returns-in-None
returns-in-None c = λ row rows.
    ap (λ es. rows_with c.args.kind es (row ∷ rows)) c.in-None.ensures.steps.0 ∙ sym (ap (λ es. rows_with c.args.kind es rows) c.in-None.ensures.steps.1)
