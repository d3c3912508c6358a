-- Entries without some paths: how many paths have each number.
use Rattle.std.proofs.Common.{◌≡◌, ℕ, ◌+◌, Bool, true, false, not, cond, List, [], ◌∷◌, filter, Some, None, is_some, Ordering, Less, Equal, Greater, refl, sym, ap, ◌∙◌, arith}
use Rattle.std.specs.Ordering.{is_eq, eq_by_cmp, ordering_reverse}
use Rattle.std.specs.FinMap.{find, is_sorted}
use Rattle.std.specs.FinMap.Entries.{below_all, find-where_key}
use Rattle.std.proofs.lemmas.Bool.{and_parts}
use Rattle.acl_names.specs.Paths.{path_cmp, PathOf}
use Rattle.acl_names.proofs.PathOrder.{path_total, exact_paths}
use Rattle.path_map.specs.Entries.{IsInOrder, found}
use Rattle.path_map.specs.Merged.{has, without_all}
use Rattle.path_map.specs.Inner.{After}
use Rattle.path_map.proofs.Places.{above}
use Rattle.path_map.proofs.Merges.{later_after, without_none}
use Rattle.kinds.specs.Numbered.{Numbers, one_if, paths_with}
use Rattle.kinds.specs.Inner.{found_if, found_with}
use Rattle.kinds.proofs.Counts.{found_all}
use Rattle.kinds.proofs.Chosen.{in_order-filter}

-- the entries without one
abbrev without : PathOf → Numbers → Numbers
without p es = filter (λ e. not (eq_by_cmp path_cmp e.0 p)) es

without_later : (p : PathOf) (ns : Numbers) → After p ns → without p ns ≡ ns
without_later p [] h = refl
without_later p (e ∷ ns) h = ap (λ o. cond (not (is_eq o)) (e ∷ without p ns) (without p ns)) (above p e.0 h.0) ∙ ap (λ l. e ∷ l) (without_later p ns h.1)

after_gone : (p : PathOf) (e : PathOf × ℕ) (ns : Numbers) → path_cmp p e.0 ≡ Equal → After e.0 ns → After p ns
after_gone p e [] same h = tt
after_gone p e (x ∷ ns) same h = (path_total.congr p e.0 x.0 same ∙ h.0, after_gone p e ns same h.1)

flipped : (p q : PathOf) → is_eq (path_cmp q p) ≡ is_eq (path_cmp p q)
flipped p q = ap is_eq (path_total.antisymm q p) ∙ by (path_cmp p q)
  where
    by : (o : Ordering) → is_eq (ordering_reverse o) ≡ is_eq o
    by Less = refl
    by Equal = refl
    by Greater = refl

count_without : (n : ℕ) (p : PathOf) (ns : Numbers) → IsInOrder ns → paths_with n (without p ns) + found_if n (find path_cmp p ns) ≡ paths_with n ns
count_without n p [] h = omega arith
count_without n p (e ∷ ns) h =
    ap (λ b. paths_with n (cond (not b) (e ∷ without p ns) (without p ns)) + found_if n (cond (is_eq (path_cmp p e.0)) (Some e.1) (find path_cmp p ns))) (flipped p e.0)
    ∙ by (path_cmp p e.0) refl (count_without n p ns (and_parts (below_all path_cmp e.0 ns) (is_sorted path_cmp ns) h).1)
  where
    by : (o : Ordering) → path_cmp p e.0 ≡ o → paths_with n (without p ns) + found_if n (find path_cmp p ns) ≡ paths_with n ns
        → paths_with n (cond (not (is_eq o)) (e ∷ without p ns) (without p ns)) + found_if n (cond (is_eq o) (Some e.1) (find path_cmp p ns)) ≡ one_if n e.1 + paths_with n ns
    by Less is rest = omega arith
    by Equal is rest = let same : paths_with n (without p ns) ≡ paths_with n ns = ap (paths_with n) (without_later p ns (after_gone p e ns is (later_after e ns h))) in omega arith
    by Greater is rest = omega arith

found_left : (p q : PathOf) (ns : Numbers) → (is_eq (path_cmp q p) ≡ false) → find path_cmp q (without p ns) ≡ find path_cmp q ns
found_left p q ns other =
    find-where_key path_cmp (λ x. not (eq_by_cmp path_cmp x p)) q (λ x same. ap (λ z. not (eq_by_cmp path_cmp z p)) (sym (exact_paths q x same))) ns
    ∙ ap (λ b. cond (not b) (find path_cmp q ns) None) other

-- ---- without several

module _ {W : Type 0} where
  -- the first of those that go, and then the others
  without_more : (g : PathOf × W) (gs : List (PathOf × W)) (ns : Numbers) → without_all (g ∷ gs) ns ≡ without_all gs (without g.0 ns)
  without_more g gs [] = refl
  without_more g gs (e ∷ ns) = by (is_eq (path_cmp e.0 g.0)) (has e.0 gs) refl (without_more g gs ns)
    where
      by : (b d : Bool) → has e.0 gs ≡ d → without_all (g ∷ gs) ns ≡ without_all gs (without g.0 ns)
          → cond (not (is_some (cond b (Some g.1) (find path_cmp e.0 gs)))) (e ∷ without_all (g ∷ gs) ns) (without_all (g ∷ gs) ns)
          ≡ without_all gs (cond (not b) (e ∷ without g.0 ns) (without g.0 ns))
      by true d is rest = rest
      by false d is rest = ap (λ l. cond (not (has e.0 gs)) (e ∷ l) l) rest

  found_others : (g : PathOf × W) (gs : List (PathOf × W)) (ns : Numbers) → After g.0 gs → found gs (without g.0 ns) ≡ found gs ns
  found_others g [] ns h = refl
  found_others g (x ∷ gs) ns h = λ i. found_left g.0 x.0 ns (ap is_eq (above g.0 x.0 h.0)) i ∷ found_others g gs ns h.1 i

  pub count_without_all : (n : ℕ) (gone : List (PathOf × W)) (ns : Numbers) → IsInOrder gone → IsInOrder ns → paths_with n (without_all gone ns) + found_all n gone ns ≡ paths_with n ns
  count_without_all n [] ns rising order = let same : paths_with n (without_all {W = W} [] ns) ≡ paths_with n ns = ap (paths_with n) (without_none {W = W} [] ns refl) in omega (arith, same)
  count_without_all n (g ∷ gs) ns rising order =
      let parts = and_parts (below_all path_cmp g.0 gs) (is_sorted path_cmp gs) rising in
      let rest = count_without_all n gs (without g.0 ns) parts.1 (in_order-filter (λ q. not (eq_by_cmp path_cmp q g.0)) ns order) in
      let one = count_without n g.0 ns order in
      let others : found_all n gs (without g.0 ns) ≡ found_all n gs ns = ap (found_with n) (found_others g gs ns (later_after g gs rising)) in
      let whole : paths_with n (without_all (g ∷ gs) ns) ≡ paths_with n (without_all gs (without g.0 ns)) = ap (paths_with n) (without_more g gs ns) in
      omega (arith, rest, one, others, whole)
