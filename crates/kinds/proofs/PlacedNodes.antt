-- Nodes of a list that get numbers, and entries by them.
use Rattle.std.proofs.Common.{◌≡◌, ℕ, zero, suc, ◌<◌, Bool, true, false, cond, List, [], ◌∷◌, ◌++◌, length, map, get_or, Option, Some, None, refl, sym, ap, subst, ◌∙◌, arith}
use Rattle.std.specs.Prelude.{◌==◌}
use Rattle.std.specs.List.{AllByRecursion}
use Rattle.std.specs.FinMap.{is_sorted}
use Rattle.std.proofs.lemmas.List.{length-append}
use Rattle.acl_names.specs.Paths.{path_cmp}
use Rattle.path_map.specs.Entries.{IsInOrder}
use Rattle.kinds.specs.Kinds.{KindsOf, node_at, count_at, IsNode, Adds}
use Rattle.kinds.specs.Numbered.{Numbers, with_node, entries_by, AreUsed, one_if, paths_with}
use Rattle.kinds.specs.Inner.{Extends}
use Rattle.kinds.specs.declared.placed.GivenNode.{GivenNode}
use Rattle.kinds.specs.Placed.{placed, given, AreGiven, IsOfEntry, ArePlaces, by_place, AddsNodes}
use Rattle.kinds.proofs.Numbers.{eq_true, push_read}
use Rattle.kinds.proofs.EntriesBy.{adds_extends, adds_here}
use Rattle.kinds.proofs.Counts.{sorted_paths}
use Rattle.kinds.proofs.Chosen.{sorted_same}

pub all_item : {A B : Type 0} (f : A → B) (P : B → Type 0) (xs : List A) (i : ℕ) (x : A) → AllByRecursion P (map f xs) → i < length xs → x ≡ get_or xs i x → P (f x)
all_item f P [] i x h lt is = absurd (omega arith)
all_item f P (y ∷ xs) zero x h lt is = subst (λ z. P (f z)) (sym is) h.0
all_item f P (y ∷ xs) (suc i) x h lt is = all_item f P xs i x h.1 (omega arith) is

all_places : {A : Type 0} (P : A → Type 0) (xs : List A) (d : A) → ((i : ℕ) → i < length xs → P (get_or xs i d)) → AllByRecursion P xs
all_places P [] d h = tt
all_places P (x ∷ xs) d h = (h 0 (omega arith), all_places P xs d (λ i lt. h (suc i) (omega (arith, lt))))

module _ {N : Type 0} where
  -- a node more that has a number
  number_more : (k0 k k1 : KindsOf N) (nodes : List (Option N)) (numbers : List ℕ) (o : Option N) (at : ℕ) → AddsNodes k0 nodes numbers k
      → Extends k k1 → ((n : ℕ) → count_at k1 n ≡ count_at k n) → ((x : N) → o ≡ Some x → node_at k1 at ≡ Some x) → AddsNodes k0 (nodes ++ o ∷ []) (numbers ++ at ∷ []) k1
  number_more k0 k k1 nodes numbers o at h ext counts here = record {
    extends = λ n y is. ext n y (h.extends n y is);
    counts = λ n. counts n ∙ h.counts n;
    long = let long = h.long in omega (arith, long, length-append numbers (at ∷ []), length-append nodes (o ∷ []));
    here = λ i y is. by i y (i == length numbers) refl (sym (reads i) ∙ is);
  }
    where
      reads : (i : ℕ) → get_or (nodes ++ o ∷ []) i None ≡ cond (i == length numbers) o (get_or nodes i None)
      reads i = push_read nodes i o None ∙ ap (λ n. cond (i == n) o (get_or nodes i None)) (sym h.long)

      by : (i : ℕ) (y : N) (b : Bool) → (i == length numbers) ≡ b → cond b o (get_or nodes i None) ≡ Some y → node_at k1 (get_or (numbers ++ at ∷ []) i 0) ≡ Some y
      by i y true same is =
          ap (node_at k1) (push_read numbers i at 0 ∙ ap (λ b. cond b at (get_or numbers i 0)) same)
          ∙ here y is
      by i y false other is =
          ap (node_at k1) (push_read numbers i at 0 ∙ ap (λ b. cond b at (get_or numbers i 0)) other)
          ∙ ext (get_or numbers i 0) y (h.here i y is)

  pub nodes_more : (k0 k k1 : KindsOf N) (nodes : List (Option N)) (numbers : List ℕ) (x : N) (at : ℕ) → AddsNodes k0 nodes numbers k → Adds k x at k1
      → AddsNodes k0 (nodes ++ Some x ∷ []) (numbers ++ at ∷ []) k1
  nodes_more k0 k k1 nodes numbers x at h adds = number_more k0 k k1 nodes numbers (Some x) at h (adds_extends k k1 x at adds) adds.counts (λ y is. adds_here k k1 x at adds ∙ is)

  pub nodes_known : (k0 k : KindsOf N) (nodes : List (Option N)) (numbers : List ℕ) (at : ℕ) → AddsNodes k0 nodes numbers k → AddsNodes k0 (nodes ++ node_at k0 at ∷ []) (numbers ++ at ∷ []) k
  nodes_known k0 k nodes numbers at h = number_more k0 k k nodes numbers (node_at k0 at) at h (λ n x is. is) (λ n. refl) (λ x is. h.extends at x is)

  pub all_given : (k : KindsOf N) (nodes : List (GivenNode N)) → AreGiven k nodes → AllByRecursion (λ o. (x : N) × (o ≡ Some x)) (map (given k) nodes)
  all_given k [] h = tt
  all_given k (node ∷ nodes) h = (h.0, all_given k nodes h.1)

  some_at : (nodes : List (Option N)) → AllByRecursion (λ o. (x : N) × (o ≡ Some x)) nodes → (i : ℕ) → i < length nodes → (x : N) × (get_or nodes i None ≡ Some x)
  some_at [] all i lt = absurd (omega arith)
  some_at (o ∷ nodes) all zero lt = all.0
  some_at (o ∷ nodes) all (suc i) lt = some_at nodes all.1 i (omega arith)

  module _ (k0 k : KindsOf N) (nodes : List (Option N)) (all : AllByRecursion (λ o. (x : N) × (o ≡ Some x)) nodes) (numbers : List ℕ) (h : AddsNodes k0 nodes numbers k) where
    pub nodes_used : AllByRecursion (λ n. IsNode k n) numbers
    nodes_used = all_places (λ n. IsNode k n) numbers 0 (λ i lt.
        let some = some_at nodes all i (let long = h.long in omega (arith, lt, long)) in
        (some.0, h.here i some.0 some.1))

    pub placed_entries : (es : Numbers) → ArePlaces (length nodes) es → entries_by k (by_place numbers es) ≡ placed nodes es
    placed_entries [] are = refl
    placed_entries (e ∷ es) are =
        let some = some_at nodes all e.1 are.0 in
        λ i. with_node e.0 ((h.here e.1 some.0 some.1 ∙ sym some.1) i) (placed_entries es are.1 i)

paths_by_place : (numbers : List ℕ) (es : Numbers) → map (λ e. e.0) (by_place numbers es) ≡ map (λ e. e.0) es
paths_by_place numbers [] = refl
paths_by_place numbers (e ∷ es) = ap (λ l. e.0 ∷ l) (paths_by_place numbers es)

-- the order of entries does not depend on their numbers
pub placed_order : {N : Type 0} (k : KindsOf N) (numbers : List ℕ) (es entries : Numbers) → AreUsed k entries → entries ≡ by_place numbers es → IsInOrder es → IsInOrder (entries_by k entries)
placed_order k numbers es entries used is order =
    sorted_same k entries used
    ∙ ap (is_sorted path_cmp) is
    ∙ sorted_paths (by_place numbers es) es (paths_by_place numbers es)
    ∙ order

-- ---- nodes of numbers that paths have

-- the node of a number that some path has is that of an entry
pub used_entry : {N : Type 0} (k : KindsOf N) (ns : Numbers) (n : ℕ) (x : N) → AreUsed k ns → 0 < paths_with n ns → node_at k n ≡ Some x → IsOfEntry x (entries_by k ns)
used_entry k [] n x used some is = absurd (omega arith)
used_entry {N = N} k (e ∷ ns) n x used some is = subst (IsOfEntry x) (sym (ap (λ o. with_node e.0 o (entries_by k ns)) used.0.1)) (by (e.1 == n) refl (λ more. used_entry k ns n x used.1 more is))
  where
    by : (b : Bool) → (e.1 == n) ≡ b → (0 < paths_with n ns → IsOfEntry x (entries_by k ns)) → IsOfEntry x ((e.0, used.0.0) ∷ entries_by k ns)
    by true same rest = (0, sym used.0.1 ∙ ap (node_at k) (eq_true e.1 n same) ∙ is)
    by false other rest =
        let here : one_if n e.1 ≡ 0 = ap (λ b. cond b 1 0) other in
        let more = rest (omega (arith, some, here)) in
        (suc more.0, more.1)
