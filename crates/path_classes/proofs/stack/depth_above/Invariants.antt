use Rattle.std.proofs.Common.{◌≡◌, ◌≤◌, false, length, map, take}
use Rattle.std.specs.Ordering.{is_gt}
use Rattle.acl_names.specs.Paths.{path_cmp, PathOf}
use Rattle.path_map.specs.Entries.{seen}
use Rattle.path_classes.specs.Walks.{nearest}
use Rattle.path_classes.proofs.stack.depth_above.Given as goal

abbrev pub invariant-loop-depth : goal.invariant-loop-depth
invariant-loop-depth g l = record {
  most : l.depth ≤ length l.stack;
  kept : (p : PathOf) → is_gt (path_cmp l.path p) ≡ false → nearest p (take l.depth (map seen l.stack)) ≡ nearest p (map seen l.stack);
}

abbrev pub decreases-loop-depth : goal.decreases-loop-depth
decreases-loop-depth g l = l.depth
