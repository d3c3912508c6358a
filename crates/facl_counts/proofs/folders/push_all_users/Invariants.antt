use Rattle.std.proofs.Common.{◌≡◌, ◌++◌, drop, map}
use Rattle.facl_counts.specs.Sums.{folder_sum, lines_by}
use Rattle.facl_counts.proofs.folders.push_all_users.Given as goal

abbrev pub invariant-loop-at : goal.invariant-loop-at
invariant-loop-at l =
    l.text.items ++ lines_by (folder_sum l.folder) (drop l.at (map (λ n. n.items) l.names)) (drop l.at l.sums)
    ≡ l.initial.text.items ++ lines_by (folder_sum l.folder) (map (λ n. n.items) l.names) l.sums
