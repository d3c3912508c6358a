-- Entries put among others, by their numbers: how many files have each, and which files they are.
use Rattle.std.proofs.Common.{◌≡◌, ℕ, ◌+◌, ◌<◌, ◌≤◌, ◌&&◌, Bool, true, false, cond, List, [], ◌∷◌, map, Some, None, Ordering, Less, Equal, Greater, refl, sym, ap, ◌∙◌, arith}
use Rattle.std.specs.Prelude.{option_and_then}
use Rattle.std.specs.List.{AllByRecursion}
use Rattle.std.specs.Ordering.{is_eq, is_lt}
use Rattle.std.specs.FinMap.{find, put, is_sorted}
use Rattle.std.specs.FinMap.Entries.{by_order, below_all, find-put}
use Rattle.std.proofs.lemmas.Bool.{and_parts}
use Rattle.acl_names.specs.Paths.{path_cmp, PathOf}
use Rattle.acl_names.proofs.PathOrder.{path_total}
use Rattle.path_map.specs.Entries.{IsInOrder, found}
use Rattle.path_map.specs.Merged.{put_all}
use Rattle.path_map.specs.Inner.{After}
use Rattle.path_map.proofs.Places.{above}
use Rattle.path_map.proofs.Merges.{later_after, in_order-put_all}
use Rattle.kinds.specs.Kinds.{KindsOf, node_at, count_at, IsNode}
use Rattle.kinds.specs.Numbered.{Numbers, entries_by, one_if, paths_with, AreUsed}
use Rattle.kinds.specs.Inner.{paths_in, AreAmong, found_if, found_with}
use Rattle.kinds.proofs.Numbers.{eq_self}
use Rattle.kinds.proofs.EntriesBy.{entry_first, entries_same, all_weaker}

-- ---- how many files have a number

abbrev pub found_all : {W : Type 0} → ℕ → List (PathOf × W) → Numbers → ℕ
found_all n ps es = found_with n (found ps es)

pub not_after : (p : PathOf) (es : Numbers) → After p es → find path_cmp p es ≡ None
not_after p [] h = refl
not_after p (e ∷ es) h = ap (λ o. cond (is_eq o) (Some e.1) (find path_cmp p es)) h.0 ∙ not_after p es h.1

after_rest : (p : PathOf) (e : PathOf × ℕ) (es : Numbers) → path_cmp p e.0 ≡ Less → After e.0 es → After p es
after_rest p e [] lt h = tt
after_rest p e (x ∷ es) lt h = (path_total.trans p e.0 x.0 lt h.0, after_rest p e es lt h.1)

pub count_put : (n : ℕ) (p : PathOf) (v : ℕ) (es : Numbers) → IsInOrder es → paths_with n (put path_cmp p v es) + found_if n (find path_cmp p es) ≡ paths_with n es + one_if n v
count_put n p v [] h = omega arith
count_put n p v (e ∷ es) h = by (path_cmp p e.0) refl (count_put n p v es (and_parts (below_all path_cmp e.0 es) (is_sorted path_cmp es) h).1)
  where
    by : (o : Ordering) → path_cmp p e.0 ≡ o → paths_with n (put path_cmp p v es) + found_if n (find path_cmp p es) ≡ paths_with n es + one_if n v
        → paths_with n (by_order o ((p, v) ∷ e ∷ es) ((e.0, v) ∷ es) (e ∷ put path_cmp p v es)) + found_if n (cond (is_eq o) (Some e.1) (find path_cmp p es))
        ≡ (one_if n e.1 + paths_with n es) + one_if n v
    by Less is rest =
        let none : found_if n (find path_cmp p es) ≡ 0 = ap (found_if n) (not_after p es (after_rest p e es is (later_after e es h))) in
        omega arith
    by Equal is rest = omega arith
    by Greater is rest = omega arith

found_other : (n : ℕ) (p : PathOf × ℕ) (ps es : Numbers) → After p.0 ps → found_all n ps (put path_cmp p.0 p.1 es) ≡ found_all n ps es
found_other n p [] es h = refl
found_other n p (q ∷ ps) es h =
    let other : find path_cmp q.0 (put path_cmp p.0 p.1 es) ≡ find path_cmp q.0 es = find-put path_cmp path_total q.0 p.0 p.1 es
    ∙ ap (λ o. cond (is_eq o) (Some p.1) (find path_cmp q.0 es)) (above p.0 q.0 h.0) in
    λ i. found_if n (other i) + found_other n p ps es h.1 i

pub count_put_all : (n : ℕ) (ps es : Numbers) → IsInOrder ps → IsInOrder es → paths_with n (put_all ps es) + found_all n ps es ≡ paths_with n es + paths_with n ps
count_put_all n [] es h order = omega arith
count_put_all n (p ∷ ps) es h order =
    let rest = count_put_all n ps (put path_cmp p.0 p.1 es) (and_parts (below_all path_cmp p.0 ps) (is_sorted path_cmp ps) h).1 (in_order-put_all (p ∷ []) es order) in
    let one = count_put n p.0 p.1 es order in
    let same = found_other n p ps es (later_after p ps h) in
    omega (arith, rest, one, same)

-- entries of a map, by their paths
pub found_among : (n : ℕ) (ns ps done : Numbers) → paths_in ps ≡ paths_in done → AreAmong ns done → found_all n ps ns ≡ paths_with n done
found_among n ns [] [] same h = refl
found_among n ns [] (d ∷ done) same h = cc
found_among n ns (p ∷ ps) [] same h = cc
found_among n ns (p ∷ ps) (d ∷ done) same h =
    let path : p.0 ≡ d.0 = cc in
    let rest : paths_in ps ≡ paths_in done = cc in
    λ i. (ap (λ q. found_if n (find path_cmp q ns)) path ∙ ap (found_if n) h.0) i + found_among n ns ps done rest h.1 i

-- ---- the order of paths

below_paths : {V W : Type 0} (q : PathOf) (ps : List (PathOf × V)) (es : List (PathOf × W)) → map (λ e. e.0) ps ≡ map (λ e. e.0) es → below_all path_cmp q ps ≡ below_all path_cmp q es
below_paths q [] [] h = refl
below_paths q [] (e ∷ es) h = cc
below_paths q (p ∷ ps) [] h = cc
below_paths q (p ∷ ps) (e ∷ es) h =
    let path : p.0 ≡ e.0 = cc in
    let rest : map (λ e. e.0) ps ≡ map (λ e. e.0) es = cc in
    λ i. is_lt (path_cmp q (path i)) && below_paths q ps es rest i

pub sorted_paths : {V W : Type 0} (ps : List (PathOf × V)) (es : List (PathOf × W)) → map (λ e. e.0) ps ≡ map (λ e. e.0) es → is_sorted path_cmp ps ≡ is_sorted path_cmp es
sorted_paths [] [] h = refl
sorted_paths [] (e ∷ es) h = cc
sorted_paths (p ∷ ps) [] h = cc
sorted_paths (p ∷ ps) (e ∷ es) h =
    let path : p.0 ≡ e.0 = cc in
    let rest : map (λ e. e.0) ps ≡ map (λ e. e.0) es = cc in
    λ i. (ap (λ q. below_all path_cmp q ps) path ∙ below_paths e.0 ps es rest) i && sorted_paths ps es rest i

-- ---- which files they are

module _ {N : Type 0} (k : KindsOf N) where
  pub entries_put : (p : PathOf) (v : ℕ) (y : N) (es : Numbers) → node_at k v ≡ Some y → AreUsed k es → entries_by k (put path_cmp p v es) ≡ put path_cmp p y (entries_by k es)
  entries_put p v y [] is used = entry_first k (p, v) [] y is
  entries_put p v y (e ∷ es) is used =
      let x = used.0.0 in
      let first : entries_by k (e ∷ es) ≡ (e.0, x) ∷ entries_by k es = entry_first k e es x used.0.1 in
      by (path_cmp p e.0) first (entries_put p v y es is used.1) ∙ sym (ap (put path_cmp p y) first)
    where
      by : (o : Ordering) → entries_by k (e ∷ es) ≡ (e.0, used.0.0) ∷ entries_by k es → entries_by k (put path_cmp p v es) ≡ put path_cmp p y (entries_by k es)
          → entries_by k (by_order o ((p, v) ∷ e ∷ es) ((e.0, v) ∷ es) (e ∷ put path_cmp p v es))
          ≡ by_order o ((p, y) ∷ (e.0, used.0.0) ∷ entries_by k es) ((e.0, y) ∷ entries_by k es) ((e.0, used.0.0) ∷ put path_cmp p y (entries_by k es))
      by Less first rest = entry_first k (p, v) (e ∷ es) y is ∙ ap (λ l. (p, y) ∷ l) first
      by Equal first rest = entry_first k (e.0, v) es y is
      by Greater first rest = entry_first k e (put path_cmp p v es) used.0.0 used.0.1 ∙ ap (λ l. (e.0, used.0.0) ∷ l) rest

  pub used_put : (p : PathOf) (v : ℕ) (es : Numbers) → IsNode k v → AreUsed k es → AreUsed k (put path_cmp p v es)
  used_put p v [] is used = (is, tt)
  used_put p v (e ∷ es) is used =
      elim (path_cmp p e.0) as (λ o. AreUsed k (by_order o ((p, v) ∷ e ∷ es) ((e.0, v) ∷ es) (e ∷ put path_cmp p v es))) [
        | Less ↦ (is, used)
        | Equal ↦ (is, used.1)
        | Greater ↦ (used.0, used_put p v es is used.1)
      ]

  pub used_put_all : (ps es : Numbers) → AreUsed k ps → AreUsed k es → AreUsed k (put_all ps es)
  used_put_all [] es h used = used
  used_put_all (p ∷ ps) es h used = used_put_all ps (put path_cmp p.0 p.1 es) h.1 (used_put p.0 p.1 es h.0 used)

  pub entries_put_all : (ps es : Numbers) → AreUsed k ps → AreUsed k es → entries_by k (put_all ps es) ≡ put_all (entries_by k ps) (entries_by k es)
  entries_put_all [] es h used = refl
  entries_put_all (p ∷ ps) es h used =
      entries_put_all ps (put path_cmp p.0 p.1 es) h.1 (used_put p.0 p.1 es h.0 used)
      ∙ ap (put_all (entries_by k ps)) (entries_put p.0 p.1 h.0.0 es h.0.1 used)
      ∙ sym (ap (λ l. put_all l (entries_by k es)) (entry_first k p ps h.0.0 h.0.1))

  -- the node of a path
  pub found_entry : (p : PathOf) (es : Numbers) → AreUsed k es → find path_cmp p (entries_by k es) ≡ option_and_then (node_at k) (find path_cmp p es)
  found_entry p [] used = refl
  found_entry p (e ∷ es) used =
      ap (find path_cmp p) (entry_first k e es used.0.0 used.0.1) ∙ by (is_eq (path_cmp p e.0)) (found_entry p es used.1)
    where
      by : (b : Bool) → find path_cmp p (entries_by k es) ≡ option_and_then (node_at k) (find path_cmp p es)
          → cond b (Some used.0.0) (find path_cmp p (entries_by k es)) ≡ option_and_then (node_at k) (cond b (Some e.1) (find path_cmp p es))
      by true rest = sym used.0.1
      by false rest = rest

-- ---- numbers that files have

pub counted_all : (f : ℕ → ℕ) (ns : Numbers) → ((n : ℕ) → paths_with n ns ≤ f n) → AllByRecursion (λ e. 0 < f e.1) ns
counted_all f [] h = tt
counted_all f (e ∷ ns) h =
    let here : one_if e.1 e.1 ≡ 1 = ap (λ b. cond b 1 0) (eq_self e.1) in
    let le = h e.1 in
    (omega arith, counted_all f ns (λ n. let le = h n in omega arith))

module _ {N : Type 0} (k k' : KindsOf N) (kept : (n : ℕ) → 0 < count_at k' n → node_at k' n ≡ node_at k n) (ns : Numbers) (counted : (n : ℕ) → count_at k' n ≡ paths_with n ns) where
  same_nodes : AllByRecursion (λ e. node_at k' e.1 ≡ node_at k e.1) ns
  same_nodes = all_weaker (λ e. 0 < count_at k' e.1) (λ e. node_at k' e.1 ≡ node_at k e.1) (λ e h. kept e.1 h) ns (counted_all (count_at k') ns (λ n. let c = counted n in omega (arith, c)))

  -- where nodes of numbers that files have are kept, the files are the same
  pub kept_entries : entries_by k' ns ≡ entries_by k ns
  kept_entries = entries_same k k' ns same_nodes

  pub kept_used : AreUsed k ns → AreUsed k' ns
  kept_used used = by ns used same_nodes
    where
      by : (es : Numbers) → AreUsed k es → AllByRecursion (λ e. node_at k' e.1 ≡ node_at k e.1) es → AreUsed k' es
      by [] used same = tt
      by (e ∷ es) used same = ((used.0.0, same.0 ∙ used.0.1), by es used.1 same.1)
