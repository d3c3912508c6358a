-- How many entries lie at some tops or below them, counted one top after another.
use Rattle.std.proofs.Common.{◌≡◌, ℕ, suc, ◌+◌, ◌<◌, ◌≤◌, Bool, true, false, not, ◌||◌, cond, List, [], ◌∷◌, length, filter, Ordering, Less, Equal, Greater}
use Rattle.std.proofs.Common.{refl, sym, ap, subst, ◌∙◌, arith, true≢false}
use Rattle.std.specs.Prelude.{count_by}
use Rattle.std.specs.Ordering.{is_gt}
use Rattle.std.specs.FinMap.{is_sorted}
use Rattle.std.specs.FinMap.Entries.{below_all}
use Rattle.std.proofs.lemmas.Bool.{and_parts}
use Rattle.std.proofs.lemmas.List.Sums.{sum_by-cons, length-filter}
use Rattle.acl_names.specs.Paths.{path_cmp, PathOf}
use Rattle.acl_names.specs.Below.{encloses}
use Rattle.acl_names.proofs.PathOrder.{exact_paths}
use Rattle.acl_names.proofs.Below.{convex, not_before, within_trans}
use Rattle.path_map.specs.Entries.{IsInOrder}
use Rattle.path_map.specs.Below.{within, lies_in}
use Rattle.path_map.specs.Inner.{After}
use Rattle.path_map.proofs.Merges.{later_after}
use Rattle.path_map.proofs.Rows.{in_order-filter}
use Rattle.acl_tree.specs.Changed.{outside, IsTop}
use Rattle.acl_tree.specs.Files.{Files}
use Rattle.acl_edit.specs.declared.node.Node.{Node}
use Rattle.kinds.specs.Kinds.{KindsOf}
use Rattle.kinds.specs.Numbered.{Numbers, with_node, entries_by, AreUsed}

pub no_length : {A : Type 0} (xs : List A) → length xs ≡ 0 → xs ≡ []
no_length [] h = refl
no_length (x ∷ xs) h = absurd (omega (arith, h))

pub few_pass : {A : Type 0} (test : A → Bool) (xs : List A) → length (filter test xs) ≤ length xs
few_pass test [] = omega arith
few_pass test (x ∷ xs) = by (test x) (few_pass test xs)
  where
    by : (b : Bool) → length (filter test xs) ≤ length xs → length (cond b (x ∷ filter test xs) (filter test xs)) ≤ suc (length xs)
    by true le = omega (arith, le)
    by false le = omega (arith, le)

pub few_counted : {A : Type 0} (test : A → Bool) (xs : List A) → count_by test xs ≤ length xs
few_counted test xs = omega (arith, few_pass test xs, length-filter test xs)

pub all_counted : {A : Type 0} (test : A → Bool) → ((x : A) → test x ≡ true) → (xs : List A) → count_by test xs ≡ length xs
all_counted test all [] = refl
all_counted {A = A} test all (x ∷ xs) =
    let here : cond {A = ℕ} (test x) 1 0 ≡ 1 = ap (λ b. cond {A = ℕ} b 1 0) (all x) in
    omega (arith, sum_by-cons (λ (y : A). cond (test y) 1 0) x xs, here, all_counted test all xs)

pub none_lie : {A R : Type 0} (tops : List (PathOf × A)) → tops ≡ [] → (es : List (PathOf × R)) → count_by (λ e. lies_in tops e.0) es ≡ 0
none_lie tops none [] = refl
none_lie {R = R} tops none (e ∷ es) =
    sum_by-cons (λ (x : PathOf × R). cond (lies_in tops x.0) 1 0) e es
    ∙ (let more = none_lie tops none es in λ i. cond (lies_in (none i) e.0) 1 0 + more i)

-- ---- a top and what is below it

module _ {A : Type 0} (top p : PathOf) where
  -- what lies in the top lies in none of the later ones outside it
  none_left : encloses top p ≡ true → (more : List (PathOf × A)) → After top more → lies_in (outside top more) p ≡ false
  none_left inside [] h = refl
  none_left inside (d ∷ more) h = by (encloses top d.0) refl (none_left inside more h.1)
    where
      between : (o : Ordering) → path_cmp d.0 p ≡ o → encloses d.0 p ≡ true → encloses top d.0 ≡ true
      between Less is w = convex top d.0 p (ap is_gt h.0) is inside
      between Equal is w = ap (encloses top) (exact_paths d.0 p is) ∙ inside
      between Greater is w = absurd (true≢false (sym (ap is_gt is) ∙ not_before d.0 p w))

      apart : encloses top d.0 ≡ false → (b : Bool) → encloses d.0 p ≡ b → encloses d.0 p ≡ false
      apart out true is = absurd (true≢false (sym (between (path_cmp d.0 p) refl is) ∙ out))
      apart out false is = is

      by : (b : Bool) → encloses top d.0 ≡ b → lies_in (outside top more) p ≡ false → lies_in (cond (not b) (d ∷ outside top more) (outside top more)) p ≡ false
      by true is rest = rest
      by false is rest = λ i. apart is (encloses d.0 p) refl i || rest i

  -- what does not lie in it lies in the others as before
  same_left : encloses top p ≡ false → (more : List (PathOf × A)) → lies_in (outside top more) p ≡ lies_in more p
  same_left out [] = refl
  same_left out (d ∷ more) = by (encloses top d.0) refl (same_left out more)
    where
      apart : encloses top d.0 ≡ true → (b : Bool) → encloses d.0 p ≡ b → encloses d.0 p ≡ false
      apart inside true is = absurd (true≢false (sym (within_trans top d.0 p inside is) ∙ out))
      apart inside false is = is

      by : (b : Bool) → encloses top d.0 ≡ b → lies_in (outside top more) p ≡ lies_in more p → lies_in (cond (not b) (d ∷ outside top more) (outside top more)) p ≡ (encloses d.0 p || lies_in more p)
      by true is rest = rest ∙ sym (ap (λ b. b || lies_in more p) (apart is (encloses d.0 p) refl))
      by false is rest = ap (λ b. encloses d.0 p || b) rest

  one_path : (more : List (PathOf × A)) → After top more → cond (encloses top p) 1 0 + cond (lies_in (outside top more) p) 1 0 ≡ cond (encloses top p || lies_in more p) 1 0
  one_path more h = by (encloses top p) refl
    where
      by : (b : Bool) → encloses top p ≡ b → cond (encloses top p) 1 0 + cond (lies_in (outside top more) p) 1 0 ≡ cond (encloses top p || lies_in more p) 1 0
      by true is =
          let here : cond {A = ℕ} (encloses top p) 1 0 ≡ 1 = ap (λ b. cond {A = ℕ} b 1 0) is in
          let left : cond {A = ℕ} (lies_in (outside top more) p) 1 0 ≡ 0 = ap (λ b. cond {A = ℕ} b 1 0) (none_left is more h) in
          let all : cond {A = ℕ} (encloses top p || lies_in more p) 1 0 ≡ 1 = ap (λ b. cond {A = ℕ} (b || lies_in more p) 1 0) is in
          omega (arith, here, left, all)
      by false is =
          let here : cond {A = ℕ} (encloses top p) 1 0 ≡ 0 = ap (λ b. cond {A = ℕ} b 1 0) is in
          let left : cond {A = ℕ} (lies_in (outside top more) p) 1 0 ≡ cond {A = ℕ} (lies_in more p) 1 0 = ap (λ b. cond {A = ℕ} b 1 0) (same_left is more) in
          let all : cond {A = ℕ} (encloses top p || lies_in more p) 1 0 ≡ cond {A = ℕ} (lies_in more p) 1 0 = ap (λ b. cond {A = ℕ} (b || lies_in more p) 1 0) is in
          omega (arith, here, left, all)

each_counted : {A R : Type 0} (top : PathOf × A) (more : List (PathOf × A)) → After top.0 more → (es : List (PathOf × R))
    → count_by (λ e. encloses top.0 e.0) es + count_by (λ e. lies_in (outside top.0 more) e.0) es ≡ count_by (λ e. lies_in (top ∷ more) e.0) es
each_counted top more h [] = refl
each_counted {R = R} top more h (e ∷ es) =
    let one = one_path top.0 e.0 more h in
    let rest = each_counted top more h es in
    let inside = sum_by-cons (λ (x : PathOf × R). cond (encloses top.0 x.0) 1 0) e es in
    let left = sum_by-cons (λ (x : PathOf × R). cond (lies_in (outside top.0 more) x.0) 1 0) e es in
    let both = sum_by-cons (λ (x : PathOf × R). cond (lies_in (top ∷ more) x.0) 1 0) e es in
    omega (arith, one, rest, inside, left, both)

module _ (top : PathOf × Node) (old new : Files) where
  -- what lies at the top or below it, and what lies in what is left
  pub top_counted : {R : Type 0} (es : List (PathOf × R)) → IsInOrder old → IsTop top old new → length (within top.0 es) + count_by (λ e. lies_in new e.0) es ≡ count_by (λ e. lies_in old e.0) es
  top_counted es order t =
      (λ i. length-filter (λ e. encloses top.0 e.0) es i + count_by (λ e. lies_in (t.left i) e.0) es)
      ∙ each_counted top t.more (later_after top t.more (subst IsInOrder t.first order)) es
      ∙ ap (λ (l : Files). count_by (λ e. lies_in l e.0) es) (sym t.first)

  pub top_shorter : IsTop top old new → length new < length old
  top_shorter t = omega (arith, ap length t.first, ap length t.left, few_pass (λ (e : PathOf × Node). not (encloses top.0 e.0)) t.more)

  pub top_order : IsInOrder old → IsTop top old new → IsInOrder new
  top_order order t =
      let more : IsInOrder t.more = (and_parts (below_all path_cmp top.0 t.more) (is_sorted path_cmp t.more) (subst IsInOrder t.first order)).1 in
      subst IsInOrder (sym t.left) (in_order-filter (λ e. not (encloses top.0 e.0)) t.more more)

-- ---- entries by kinds have the paths of their numbers

module _ {N : Type 0} (k : KindsOf N) where
  pub entries_long : (ns : Numbers) → AreUsed k ns → length (entries_by k ns) ≡ length ns
  entries_long [] used = refl
  entries_long (e ∷ ns) used = ap (λ o. length (with_node e.0 o (entries_by k ns))) used.0.1 ∙ ap suc (entries_long ns used.1)

  pub entries_counted : (test : PathOf → Bool) (ns : Numbers) → AreUsed k ns → count_by (λ e. test e.0) ns ≡ count_by (λ e. test e.0) (entries_by k ns)
  entries_counted test [] used = refl
  entries_counted test (e ∷ ns) used =
      sum_by-cons (λ (x : PathOf × ℕ). cond (test x.0) 1 0) e ns
      ∙ ap (λ n. cond (test e.0) 1 0 + n) (entries_counted test ns used.1)
      ∙ sym (sum_by-cons (λ (x : PathOf × N). cond (test x.0) 1 0) (e.0, used.0.0) (entries_by k ns))
      ∙ sym (ap (λ o. count_by (λ (x : PathOf × N). test x.0) (with_node e.0 o (entries_by k ns))) used.0.1)
