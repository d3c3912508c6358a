-- Some of the entries, by their paths.
use Rattle.std.proofs.Common.{◌≡◌, ℕ, suc, ◌&&◌, ◌||◌, Bool, true, false, cond, List, [], ◌∷◌, length, map, filter, Option, Some, None, is_some, refl, sym, ap, subst, ◌∙◌}
use Rattle.std.specs.Prelude.{MatchOption}
use Rattle.std.specs.List.{list_any}
use Rattle.std.specs.Ordering.{is_eq, is_lt}
use Rattle.std.specs.FinMap.{find, is_sorted}
use Rattle.std.specs.FinMap.Entries.{below_all, is_sorted-where_key}
use Rattle.std.proofs.lemmas.Bool.{and_parts}
use Rattle.std.proofs.lemmas.Cmp.{tied_itself}
use Rattle.acl_names.specs.Paths.{path_cmp, PathOf}
use Rattle.acl_names.proofs.PathOrder.{path_total}
use Rattle.acl_names.proofs.Basics.{all_filter, from_T, to_T}
use Rattle.path_map.specs.Entries.{IsInOrder}
use Rattle.path_map.specs.Inner.{After}
use Rattle.path_map.proofs.Places.{above}
use Rattle.path_map.proofs.Merges.{later_after}
use Rattle.kinds.specs.Kinds.{KindsOf, IsNode}
use Rattle.kinds.specs.Numbered.{Numbers, entries_by, AreUsed}
use Rattle.kinds.specs.Inner.{AreAmong}
use Rattle.kinds.proofs.EntriesBy.{entry_first, all_weaker}

among_more : (e : PathOf × ℕ) (ns es : Numbers) → After e.0 es → AreAmong ns es → AreAmong (e ∷ ns) es
among_more e ns [] after h = tt
among_more e ns (x ∷ es) after h = (ap (λ o. cond (is_eq o) (Some e.1) (find path_cmp x.0 ns)) (above e.0 x.0 after.0) ∙ h.0, among_more e ns es after.1 h.1)

pub among_all : (ns : Numbers) → IsInOrder ns → AreAmong ns ns
among_all [] h = tt
among_all (e ∷ ns) h = (
  ap (λ o. cond (is_eq o) (Some e.1) (find path_cmp e.0 ns)) (tied_itself path_total e.0),
  among_more e ns ns (later_after e ns h) (among_all ns (and_parts (below_all path_cmp e.0 ns) (is_sorted path_cmp ns) h).1),
)

pub in_order-filter : (test : PathOf → Bool) (ns : Numbers) → IsInOrder ns → IsInOrder (filter (λ e. test e.0) ns)
in_order-filter test ns h = from_T _ (is_sorted-where_key path_cmp test ns (to_T _ h))

module _ {N : Type 0} (k : KindsOf N) where
  pub entries_filter : (test : PathOf → Bool) (ns : Numbers) → AreUsed k ns → entries_by k (filter (λ e. test e.0) ns) ≡ filter (λ e. test e.0) (entries_by k ns)
  entries_filter test [] used = refl
  entries_filter test (e ∷ ns) used = by (test e.0) (entries_filter test ns used.1) ∙ ap (filter (λ e. test e.0)) (sym (entry_first k e ns used.0.0 used.0.1))
    where
      by : (b : Bool) → entries_by k (filter (λ e. test e.0) ns) ≡ filter (λ e. test e.0) (entries_by k ns)
          → entries_by k (cond b (e ∷ filter (λ e. test e.0) ns) (filter (λ e. test e.0) ns))
          ≡ cond b ((e.0, used.0.0) ∷ filter (λ e. test e.0) (entries_by k ns)) (filter (λ e. test e.0) (entries_by k ns))
      by true rest = entry_first k e (filter (λ e. test e.0) ns) used.0.0 used.0.1 ∙ ap (λ l. (e.0, used.0.0) ∷ l) rest
      by false rest = rest

  pub used_filter : (test : PathOf → Bool) (ns : Numbers) → AreUsed k ns → AreUsed k (filter (λ e. test e.0) ns)
  used_filter test ns used = all_filter (λ e. IsNode k e.1) (λ e. test e.0) ns used

  -- the paths are those of the numbers
  pub paths_same : (ns : Numbers) → AreUsed k ns → map (λ e. e.0) (entries_by k ns) ≡ map (λ e. e.0) ns
  paths_same [] used = refl
  paths_same (e ∷ ns) used = ap (map (λ e. e.0)) (entry_first k e ns used.0.0 used.0.1) ∙ ap (λ l. e.0 ∷ l) (paths_same ns used.1)

  pub paths_filter : (test : PathOf → Bool) (ns : Numbers) → AreUsed k ns → map (λ e. e.0) (filter (λ e. test e.0) ns) ≡ map (λ e. e.0) (filter (λ e. test e.0) (entries_by k ns))
  paths_filter test ns used = sym (ap (map (λ e. e.0)) (sym (entries_filter test ns used)) ∙ paths_same (filter (λ e. test e.0) ns) (used_filter test ns used))

  pub length_same : (ns : Numbers) → AreUsed k ns → length (entries_by k ns) ≡ length ns
  length_same [] used = refl
  length_same (e ∷ ns) used = ap length (entry_first k e ns used.0.0 used.0.1) ∙ ap suc (length_same ns used.1)

  below_same : (p : PathOf) (ns : Numbers) → AreUsed k ns → below_all path_cmp p (entries_by k ns) ≡ below_all path_cmp p ns
  below_same p [] used = refl
  below_same p (e ∷ ns) used = ap (below_all path_cmp p) (entry_first k e ns used.0.0 used.0.1) ∙ ap (λ b. is_lt (path_cmp p e.0) && b) (below_same p ns used.1)

  pub sorted_same : (ns : Numbers) → AreUsed k ns → is_sorted path_cmp (entries_by k ns) ≡ is_sorted path_cmp ns
  sorted_same [] used = refl
  sorted_same (e ∷ ns) used = ap (is_sorted path_cmp) (entry_first k e ns used.0.0 used.0.1) ∙ (λ i. below_same e.0 ns used.1 i && sorted_same ns used.1 i)

  pub in_order_by : (ns : Numbers) → AreUsed k ns → IsInOrder ns → IsInOrder (entries_by k ns)
  in_order_by ns used order = sorted_same ns used ∙ order

  pub found_used : (p : PathOf) (n : ℕ) (ns : Numbers) → AreUsed k ns → find path_cmp p ns ≡ Some n → IsNode k n
  found_used p n [] used h = cc
  found_used p n (e ∷ ns) used h = by (is_eq (path_cmp p e.0)) h (λ later. found_used p n ns used.1 later)
    where
      by : (b : Bool) → cond b (Some e.1) (find path_cmp p ns) ≡ Some n → (find path_cmp p ns ≡ Some n → IsNode k n) → IsNode k n
      by true h rest = let same : e.1 ≡ n = cc in subst (IsNode k) same used.0
      by false h rest = rest h

  pub among_used : (ns es : Numbers) → AreUsed k ns → AreAmong ns es → AreUsed k es
  among_used ns es used among = all_weaker (λ e. find path_cmp e.0 ns ≡ Some e.1) (λ e. IsNode k e.1) (λ e h. found_used e.0 e.1 ns used h) es among

-- ---- whether one passes a test

abbrev some_in : {A : Type 0} → List A → Bool
some_in [] = false
some_in (x ∷ xs) = true

any_filter : {A : Type 0} (test : A → Bool) (xs : List A) → some_in (filter test xs) ≡ list_any test xs
any_filter test [] = refl
any_filter test (x ∷ xs) = by (test x) (any_filter test xs)
  where
    by : (b : Bool) → some_in (filter test xs) ≡ list_any test xs → some_in (cond b (x ∷ filter test xs) (filter test xs)) ≡ (b || list_any test xs)
    by true rest = refl
    by false rest = rest

some_map : {A B : Type 0} (f : A → B) (xs : List A) → some_in (map f xs) ≡ some_in xs
some_map f [] = refl
some_map f (x ∷ xs) = refl

some_next : {A : Type 0} (o : Option A) (all rest : Numbers) (f : A → PathOf × ℕ) → MatchOption o ((all ≡ []) × (rest ≡ [])) (λ a. all ≡ f a ∷ rest) → is_some o ≡ some_in all
some_next None all rest f h = sym (ap (λ (l : Numbers). some_in l) h.0)
some_next (Some a) all rest f h = sym (ap (λ (l : Numbers). some_in l) h)

-- the first of the paths of those that pass it
pub first_passes : {A V : Type 0} (test : PathOf → Bool) (es : List (PathOf × V)) (all rest : Numbers) (o : Option A) (f : A → PathOf × ℕ)
    → map (λ e. e.0) all ≡ map (λ e. e.0) (filter (λ e. test e.0) es)
    → MatchOption o ((all ≡ []) × (rest ≡ [])) (λ a. all ≡ f a ∷ rest) → is_some o ≡ list_any (λ e. test e.0) es
first_passes test es all rest o f same h =
    some_next o all rest f h
    ∙ sym (some_map (λ e. e.0) all) ∙ ap some_in same ∙ some_map (λ e. e.0) (filter (λ e. test e.0) es)
    ∙ any_filter (λ e. test e.0) es
