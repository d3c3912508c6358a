use Rattle.std.proofs.Common.{◌≡◌, ◌≤◌, ℕ, map, take}
use Rattle.std.specs.Prelude.{◌-◌}
use Rattle.kinds.specs.Inner.{pending_at}
use Rattle.path_map.specs.Entries.{seen}
use Rattle.kinds.specs.Kinds.{count_at}
use Rattle.kinds.specs.Numbered.{paths_with}
use Rattle.path_classes.proofs.kept_classes.without_paths.Given as goal

abbrev pub invariant-loop-entry : goal.invariant-loop-entry
invariant-loop-entry l = record {
  counts : (n : ℕ) → count_at l.kinds n - pending_at n l.last l.pending ≡ count_at l.fn.kinds n - paths_with n (map seen (take l.entry-index l.entries));
  most : l.pending ≤ l.entry-index;
}
