use Rattle.std.proofs.Common.{◌≡◌, ◌≤◌, ◌+◌, ◌*◌, length}
use Rattle.kinds.specs.Given.{shared_nodes}
use Rattle.kinds.specs.Renewed.{renewed_before}
use Rattle.acl_rights.specs.KindRows.{node_row, shared_rows, AreRows}
use Rattle.acl_rights.proofs.many_rows.rows_of_numbers.Given as goal

abbrev pub invariant-loop-number : goal.invariant-loop-number
invariant-loop-number g l = record {
  made : shared_nodes l.rows.items ≡ renewed_before (node_row g.J.Judge.verdict_of l.users) l.files.0 l.number;
  known : AreRows g.J.Judge.verdict_of l.users (shared_rows l.known.rows.items);
  asked : g.J.Judge.asked_of l.judge ≤ g.J.Judge.asked_of l.fn.judge + l.number * length l.users;
}
