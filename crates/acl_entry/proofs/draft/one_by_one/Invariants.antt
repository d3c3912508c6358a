use Rattle.std.proofs.Common.{◌≡◌, ◌≤◌, ◌+◌, take, drop}
use Rattle.std.specs.FinMap as maps
use Rattle.std.specs.List.Sorted.{IsPermutation}
use Rattle.acl_entry.specs.declared.entry.Key.{Key}
use Rattle.acl_entry.specs.declared.acl.TheConstants.{INLINE_ENTRIES}
use Rattle.acl_entry.specs.Keys.{key_cmp}
use Rattle.acl_entry.specs.Lists.{pairs, keys, IsInOrder, HasIds, repeated, repeated_from}
use Rattle.acl_entry.proofs.draft.one_by_one.Given as goal

abbrev pub invariant-loop-i : goal.invariant-loop-i
invariant-loop-i l = record {
  in_order : IsInOrder l.sorted.items;
  ids : HasIds l.sorted.items;
  permutation : IsPermutation (take l.i l.entries) l.sorted.items;
  same : (k : Key) → maps.find key_cmp k (pairs l.sorted.items) ≡ maps.find key_cmp k (pairs (take l.i l.entries));
  room : INLINE_ENTRIES ≤ l.sorted.capacity;
  once : repeated_from (keys (take l.i l.entries)) (l.i + 1) (keys (drop l.i l.entries)) ≡ repeated (keys l.entries);
}
