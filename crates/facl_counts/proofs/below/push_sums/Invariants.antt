use Rattle.std.proofs.Common.{◌≡◌, ◌++◌, drop, map}
use Rattle.facl_counts.specs.Sums.{sum_lines}
use Rattle.facl_counts.proofs.below.push_sums.Given as goal

abbrev pub invariant-loop-at : goal.invariant-loop-at
invariant-loop-at l =
    l.text.items ++ sum_lines l.tree.files (drop l.at (map (λ n. n.items) l.names)) (drop l.at l.sums) ≡ l.initial.text.items ++ sum_lines l.tree.files (map (λ n. n.items) l.names) l.sums
