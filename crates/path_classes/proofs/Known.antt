-- Paths that come after others in path order.
use Rattle.std.proofs.Common.{◌≡◌, false, List, [], ◌∷◌, ◌++◌}
use Rattle.std.proofs.Common.{Ordering, Less, Equal, Greater, IsTrue, refl, ap, subst}
use Rattle.std.specs.Ordering.{is_gt, is_lt}
use Rattle.std.specs.FinMap.{is_sorted}
use Rattle.std.specs.FinMap.Entries.{below_all}
use Rattle.std.proofs.lemmas.Bool.{and_parts}
use Rattle.acl_names.specs.Paths.{path_cmp, PathOf}
use Rattle.acl_names.specs.Below.{is_above}
use Rattle.acl_names.proofs.PathOrder.{path_total, exact_paths}
use Rattle.acl_names.proofs.Below.{below_less}
use Rattle.acl_names.proofs.Basics.{is_less, not_both, false_from}
use Rattle.path_map.specs.Entries.{IsInOrder}
use Rattle.path_map.proofs.Places.{above}
use Rattle.path_classes.specs.Walks.{IsFrom}

pub not_above_itself : (p r : PathOf) → path_cmp p r ≡ Less → is_above r p ≡ false
not_above_itself p r lt = false_from (is_above r p) (λ b. not_both (is_gt (path_cmp p r)) (ap is_gt (above r p (below_less r p b))) (ap is_gt lt))

-- a path after one that is not before another is after it
less_from : (r s p : PathOf) → path_cmp r s ≡ Less → is_gt (path_cmp s p) ≡ false → path_cmp r p ≡ Less
less_from r s p lt le = by (path_cmp s p) refl
  where
    by : (o : Ordering) → path_cmp s p ≡ o → path_cmp r p ≡ Less
    by Less is = path_total.trans r s p lt is
    by Equal is = subst (λ z. path_cmp r z ≡ Less) (exact_paths s p is) lt
    by Greater is = absurd (not_both (is_gt (path_cmp s p)) (ap is_gt is) le)

pub order_tail : {A : Type 0} (es fs : List (PathOf × A)) → IsInOrder (es ++ fs) → IsInOrder fs
order_tail [] fs o = o
order_tail (e ∷ es) fs o = order_tail es fs (and_parts (below_all path_cmp e.0 (es ++ fs)) (is_sorted path_cmp (es ++ fs)) o).1

-- what is from the rest on is after what comes before it
pub after_first : {A : Type 0} (r : PathOf × A) (rest : List (PathOf × A)) (p : PathOf) → IsInOrder (r ∷ rest) → IsFrom p rest → path_cmp r.0 p ≡ Less
after_first {A = A} r [] p o from = absurd from
after_first {A = A} r (s ∷ rest) p o from =
    let all = (and_parts (below_all path_cmp r.0 (s ∷ rest)) (is_sorted path_cmp (s ∷ rest)) o).0 in
    less_from r.0 s.0 p (first_less r.0 s rest all) from
  where
    first_less : (x : PathOf) (s : PathOf × A) (rest : List (PathOf × A)) → IsTrue (below_all path_cmp x (s ∷ rest)) → path_cmp x s.0 ≡ Less
    first_less x s rest h = is_less (path_cmp x s.0) (and_parts (is_lt (path_cmp x s.0)) (below_all path_cmp x rest) h).0
