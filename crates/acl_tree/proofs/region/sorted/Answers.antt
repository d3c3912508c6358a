use Rattle.std.proofs.Common.{rules, of_calls, sym}
use Rattle.std.specs.Ordering.{is_lt}
use Rattle.std.proofs.lemmas.Fn.{always_returns_same}
use Rattle.std.proofs.lemmas.List.Sorted.{ranks_by, list_any-IsPermutation}
use Rattle.acl_names.specs.Paths.{path_cmp}
use Rattle.acl_names.proofs.PathOrder.{path_total}
use Rattle.acl_tree.specs.Operands.{means}
use Rattle.acl_tree.proofs.Selected.{ascend_sorted}
use Rattle.acl_tree.proofs.region.sorted.Goals as goal

pub returns-clause-same : goal.returns-clause-same
returns-clause-same c = λ recursive q. sym (list_any-IsPermutation (λ p. means recursive p q) _ _ c.sort_unstable_by.ensures.permutation)

pub returns-clause-order : goal.returns-clause-order
returns-clause-order c =
    ascend_sorted _ (c.sort_unstable_by.ensures.sorted (λ x y. is_lt (path_cmp x y)) (ranks_by path_total (λ p. p)) (always_returns_same _ _ _ (λ a r f k. search (rules, of_calls))))
