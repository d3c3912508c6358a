use Rattle.std.proofs.Common.{◌≡◌, ℕ, List, Option, length}
use Rattle.kinds.specs.Given.{shared_nodes}
use Rattle.acl_rights.specs.KeptLabels.{HaveRows, Keeps}
use Rattle.acl_rights.proofs.kept_labels.kept_numbers.Given as goal

-- where the files that are left have rows, all have, whatever numbers more are kept
abbrev pub invariant-loop-path : goal.invariant-loop-path
invariant-loop-path l = record {
  long : length l.numbers.items ≡ length l.labels.0.0;
  all : (ms : List (Option ℕ)) → Keeps l.numbers.items ms → HaveRows (shared_nodes l.rows) ms l.labelled l.rest → HaveRows (shared_nodes l.rows) ms l.labels.1 l.files.1;
}

abbrev pub decreases-loop-path : goal.decreases-loop-path
decreases-loop-path l = length l.labelled
