use Rattle.acl_rights.proofs.RowsOfKinds.{row_known}
use Rattle.acl_rights.proofs.changed_rows.given_row.Goals as goal

pub returns-in-Some-clause-row : goal.returns-in-Some-clause-row
returns-in-Some-clause-row g c = row_known g.J.Judge.verdict_of c.args.users.now c.args.known.now.rows.now c.args.label.now c.in-Some.number c.requires.known c.in-Some.ensures
