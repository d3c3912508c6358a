use Rattle.std.proofs.Common.{subst, ◌∙◌}
use Rattle.std.specs.Prelude.{IfSome}
use Rattle.acl_rights.specs.KindRows.{shared_rows, IsAmongRows}
use Rattle.acl_rights.proofs.RowsOfNumbers.{row_among, rows_more}
use Rattle.acl_rights.proofs.many_rows.row_of_label.Goals as goal

pub returns-in-Some-clause-row : goal.returns-in-Some-clause-row
returns-in-Some-clause-row g c =
    let rs = shared_rows c.args.known.now.rows.items in
    row_among g.J.Judge.verdict_of c.args.users.now rs c.args.label.now c.in-Some.row.value c.requires.known
    (subst (λ o. IfSome o (λ row. IsAmongRows c.args.label.now row.value rs)) c.in-Some.is c.in_ok-some.ensures)

pub returns-clause-known : goal.returns-clause-known
returns-clause-known g c =
    rows_more c.args.known.now.rows.items c.put.new.self.rows.items c.in_ok-same.same c.in_ok-put.ensures g.J.Judge.verdict_of c.args.users.now c.args.label.now c.requires.known
    (c.in_ok-same.ensures.cases ∙ c.in_ok-row.ensures.row)
