use Rattle.std.proofs.Common.{◌∙◌}
use Rattle.acl_rights.proofs.RowsOfKinds.{rows_all}
use Rattle.acl_rights.proofs.changed_rows.given_rows.Goals as goal

pub returns-clause-rows : goal.returns-clause-rows
returns-clause-rows g c = c.loop-at.invariant.rows ∙ rows_all g.J.Judge.verdict_of c.args.users.now c.args.labels.now c.loop-at.at c.loop-at-test.false
