use Rattle.std.proofs.Common.{rules, of_calls}
use Rattle.std.proofs.lemmas.Fn.{always_returns_same}
use Rattle.std.proofs.lemmas.List.Sorted.{ranks_by, IsPermutation-map}
use Rattle.acl_names.proofs.PathOrder.{path_total}
use Rattle.acl_tree.proofs.SortedRecords.{is_before, sorted_are}
use Rattle.acl_tree.specs.Inner.{RestoredFile}
use Rattle.acl_tree.proofs.Restored.{sorted_map}
use Rattle.acl_tree.proofs.restore.in_path_order.Goals as goal

pub returns-clause-order : goal.returns-clause-order
returns-clause-order c =
    sorted_are _ _ c.requires
    (sorted_map (λ (x : RestoredFile). x.1) is_before c.sort_unstable_by.new.self.items
    (c.sort_unstable_by.ensures.sorted (λ (x y : RestoredFile). is_before x.1 y.1) (ranks_by path_total (λ (x : RestoredFile). x.1.path))
    (always_returns_same _ _ _ (λ a r f k. search (rules, of_calls)))))
    (IsPermutation-map (λ (x : RestoredFile). x.1) c.args.found.items c.sort_unstable_by.new.self.items c.sort_unstable_by.ensures.permutation)
