use Rattle.std.proofs.Common.{◌≡◌, ◌≤◌, ◌+◌, ◌*◌, length, map, take}
use Rattle.kinds.specs.Placed.{given}
use Rattle.acl_rights.specs.KindRows.{some_row}
use Rattle.acl_rights.proofs.changed_rows.given_rows.Given as goal

abbrev pub invariant-loop-at : goal.invariant-loop-at
invariant-loop-at g l = record {
  rows : map (given l.fn.known.rows.now.0) l.nodes.items ≡ map (λ x. some_row g.J.Judge.verdict_of l.users x.now) (take l.at l.labels);
  asked : g.J.Judge.asked_of l.judge ≤ g.J.Judge.asked_of l.fn.judge + l.at * length l.users;
}
