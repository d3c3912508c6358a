use Rattle.std.proofs.Common.{◌≡◌, ◌<◌, ℕ, None, get_or, length}
use Rattle.kinds.specs.Given.{shared_nodes}
use Rattle.kinds.specs.Memo.{EditsUsed}
use Rattle.kinds.proofs.edit.edit_nodes.Given as goal

abbrev pub invariant-loop-number : goal.invariant-loop-number
invariant-loop-number g l = record {
  long : length l.nodes.items ≡ l.number;
  each : (n : ℕ) → n < l.number → EditsUsed (g.E.KindEdit.edited l.edit) l.map.0 n (get_or (shared_nodes l.nodes.items) n None);
}
