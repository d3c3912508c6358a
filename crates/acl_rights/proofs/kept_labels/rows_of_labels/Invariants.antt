use Rattle.std.proofs.Common.{◌≡◌, take}
use Rattle.kinds.specs.Given.{shared_nodes}
use Rattle.acl_rights.specs.KeptLabels.{rows_by}
use Rattle.acl_rights.proofs.kept_labels.rows_of_labels.Given as goal

abbrev pub invariant-loop-number : goal.invariant-loop-number
invariant-loop-number l = shared_nodes l.own.items ≡ rows_by (shared_nodes l.rows) (take l.number-index l.numbers)
