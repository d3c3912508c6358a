-- Kinds whose nodes become others: which entries they have, and what counts for them.
use Rattle.std.proofs.Common.{◌≡◌, ◌≢◌, ℕ, zero, suc, ◌+◌, ◌-◌, ◌*◌, ◌<◌, ◌≤◌, Bool, true, false, cond, List, [], ◌∷◌, ◌++◌, length, get_or, Option, Some, None}
use Rattle.std.proofs.Common.{refl, sym, ap, subst, ◌∙◌, arith, nat_lt, ltb-true, ltb-false}
use Rattle.std.specs.Prelude.{option_map, ◌==◌}
use Rattle.std.specs.List.{AllByRecursion}
use Rattle.std.specs.Option.{option_map_or}
use Rattle.std.proofs.lemmas.List.{length-append, get_or_past, map-append}
use Rattle.std.proofs.lemmas.List.Sums.{sum_by-cons}
use Rattle.acl_names.proofs.Basics.{sum_times, none_times}
use Rattle.kinds.specs.Kinds.{KindsOf, kinds_of, node_at, count_at}
use Rattle.kinds.specs.Numbered.{Numbers, with_node, entries_by, one_if, paths_with, AreUsed, AreSound}
use Rattle.kinds.specs.Renewed.{renewed, weight_of, renewed_if, renewed_before, counts_before, weight_at, weight_before, Renews}
use Rattle.kinds.proofs.Numbers.{eq_true, eq_false, push_read, node_within}
use Rattle.kinds.proofs.EntriesBy.{entry_first, all_weaker}
use Rattle.kinds.proofs.Counts.{counted_all}

-- ---- nodes

module _ {N M : Type 0} (f : N → M) (k : KindsOf N) where
  pub length-renewed : (m : ℕ) → length (renewed_before f k m) ≡ m
  length-renewed zero = refl
  length-renewed (suc m) = length-append (renewed_before f k m) (renewed_if f (node_at k m) (count_at k m) ∷ []) ∙ (let h = length-renewed m in omega (arith, h))

  pub renewed_read : (m n : ℕ) → n < m → get_or (renewed_before f k m) n None ≡ renewed_if f (node_at k n) (count_at k n)
  renewed_read zero n lt = absurd (omega arith)
  renewed_read (suc m) n lt =
      push_read (renewed_before f k m) n (renewed_if f (node_at k m) (count_at k m)) None
      ∙ ap (λ l. cond (n == l) (renewed_if f (node_at k m) (count_at k m)) (get_or (renewed_before f k m) n None)) (length-renewed m)
      ∙ by (n == m) refl (renewed_read m n)
    where
      by : (b : Bool) → (n == m) ≡ b → (n < m → get_or (renewed_before f k m) n None ≡ renewed_if f (node_at k n) (count_at k n))
          → cond b (renewed_if f (node_at k m) (count_at k m)) (get_or (renewed_before f k m) n None) ≡ renewed_if f (node_at k n) (count_at k n)
      by true is before = ap (λ i. renewed_if f (node_at k i) (count_at k i)) (sym (eq_true n m is))
      by false is before = let other : n ≢ m = eq_false n m is in before (omega (arith, lt, other))

  pub some_renewed : (o : Option N) (c : ℕ) → 0 < c → renewed_if f o c ≡ option_map f o
  some_renewed None c lt = refl
  some_renewed (Some x) c lt = by (nat_lt 0 c) refl
    where
      by : (b : Bool) → nat_lt 0 c ≡ b → cond b (Some (f x)) None ≡ Some (f x)
      by true is = refl
      by false is = absurd (let ge = ltb-false _ _ is in omega (arith, lt, ge))

  pub length-counts : (m : ℕ) → length (counts_before k m) ≡ m
  length-counts zero = refl
  length-counts (suc m) = length-append (counts_before k m) (count_at k m ∷ []) ∙ (let h = length-counts m in omega (arith, h))

  counts_read : (m n : ℕ) → n < m → get_or (counts_before k m) n 0 ≡ count_at k n
  counts_read zero n lt = absurd (omega arith)
  counts_read (suc m) n lt =
      push_read (counts_before k m) n (count_at k m) 0
      ∙ ap (λ l. cond (n == l) (count_at k m) (get_or (counts_before k m) n 0)) (length-counts m)
      ∙ by (n == m) refl (counts_read m n)
    where
      by : (b : Bool) → (n == m) ≡ b → (n < m → get_or (counts_before k m) n 0 ≡ count_at k n) → cond b (count_at k m) (get_or (counts_before k m) n 0) ≡ count_at k n
      by true is before = ap (λ i. count_at k i) (sym (eq_true n m is))
      by false is before = let other : n ≢ m = eq_false n m is in before (omega (arith, lt, other))

  -- one slot more
  pub renewed_more : (n : ℕ) (slots : List (Option M × ℕ)) (s : Option M × ℕ) → kinds_of slots ≡ (renewed_before f k n, counts_before k n)
      → s ≡ (renewed_if f (node_at k n) (count_at k n), count_at k n)
      → kinds_of (slots ++ s ∷ []) ≡ (renewed_before f k (suc n), counts_before k (suc n))
  renewed_more n slots s h is =
      (λ i. (map-append (λ (s : Option M × ℕ). s.0) slots (s ∷ []) i, map-append (λ (s : Option M × ℕ). s.1) slots (s ∷ []) i))
      ∙ (λ i. ((h i).0 ++ (is i).0 ∷ [], (h i).1 ++ (is i).1 ∷ []))

  -- all slots, if no path has another number
  pub renews : (end : ℕ) → ((n : ℕ) → end ≤ n → count_at k n ≡ 0) → Renews f k (renewed_before f k end, counts_before k end)
  renews end past = record {
    nodes = λ n lt. node n lt (nat_lt n end) refl;
    counts = λ n. count n (nat_lt n end) refl;
  }
    where
      node : (n : ℕ) → 0 < count_at k n → (b : Bool) → nat_lt n end ≡ b → get_or (renewed_before f k end) n None ≡ option_map f (node_at k n)
      node n lt true is = renewed_read end n (ltb-true _ _ is) ∙ some_renewed (node_at k n) (count_at k n) lt
      node n lt false is = absurd (let none = past n (ltb-false _ _ is) in omega (arith, lt, none))

      count : (n : ℕ) → (b : Bool) → nat_lt n end ≡ b → get_or (counts_before k end) n 0 ≡ count_at k n
      count n true is = counts_read end n (ltb-true _ _ is)
      count n false is =
          let ge = ltb-false _ _ is in
          get_or_past (counts_before k end) n 0 (omega (arith, ge, length-counts end)) ∙ sym (past n ge)

-- ---- what counts

-- no path has one of the numbers from one less on
pub past_before : {N : Type 0} (k : KindsOf N) (end : ℕ) → 0 < end → count_at k (end - 1) ≡ 0 → ((n : ℕ) → end ≤ n → count_at k n ≡ 0)
    → (n : ℕ) → end - 1 ≤ n → count_at k n ≡ 0
past_before k end lt none past n le = by (n == (end - 1)) refl
  where
    by : (b : Bool) → (n == (end - 1)) ≡ b → count_at k n ≡ 0
    by true is = ap (λ i. count_at k i) (eq_true n (end - 1) is) ∙ none
    by false is = let other : n ≢ end - 1 = eq_false n (end - 1) is in past n (omega (arith, le, lt, other))

module _ {N : Type 0} (w : N → ℕ) (k : KindsOf N) where
  pub weight_grows : (n m : ℕ) → n ≤ m → weight_before w k n ≤ weight_before w k m
  weight_grows zero zero le = omega arith
  weight_grows (suc n) zero le = absurd (omega arith)
  weight_grows n (suc m) le = by (nat_lt m n) refl (weight_grows n m)
    where
      by : (b : Bool) → nat_lt m n ≡ b → (n ≤ m → weight_before w k n ≤ weight_before w k m) → weight_before w k n ≤ weight_before w k (suc m)
      by true is before = let lt = ltb-true _ _ is in let same : n ≡ suc m = omega (arith, lt, le) in subst (λ i. weight_before w k i ≤ weight_before w k (suc m)) (sym same) (omega arith)
      by false is before = let ge = ltb-false _ _ is in let h = before ge in omega (arith, h)

  -- what counts for a number, and for the numbers before it, is no more than what counts for all
  pub weight_fits : (n m : ℕ) → n < m → weight_before w k n + weight_at w k n ≤ weight_before w k m
  weight_fits n m lt = weight_grows (suc n) m (omega (arith, lt))

  -- numbers that no path has count for nothing
  pub weight_past : (end m : ℕ) → end ≤ m → ((n : ℕ) → end ≤ n → count_at k n ≡ 0) → weight_before w k m ≡ weight_before w k end
  weight_past end zero le past = let same : zero ≡ end = omega (arith, le) in ap (weight_before w k) same
  weight_past end (suc m) le past = by (nat_lt m end) refl (weight_past end m)
    where
      by : (b : Bool) → nat_lt m end ≡ b → (end ≤ m → ((n : ℕ) → end ≤ n → count_at k n ≡ 0) → weight_before w k m ≡ weight_before w k end)
          → weight_before w k (suc m) ≡ weight_before w k end
      by true is before = let lt = ltb-true _ _ is in let same : suc m ≡ end = omega (arith, lt, le) in ap (weight_before w k) same
      by false is before =
          let ge = ltb-false _ _ is in
          let weight = option_map_or w (node_at k m) 0 in
          let none : weight_at w k m ≡ 0 = ap (λ c. c * weight) (past m ge) ∙ none_times weight in
          let h = before ge past in
          omega (arith, none, h)

  abbrev node_weight : ℕ → ℕ
  node_weight n = option_map_or w (node_at k n) 0

  -- what counts for the entries whose numbers are before one
  abbrev below : ℕ → Numbers → ℕ
  below m [] = 0
  below m (e ∷ ns) = cond (nat_lt e.1 m) (node_weight e.1) 0 + below m ns

  below_none : (ns : Numbers) → below 0 ns ≡ 0
  below_none [] = refl
  below_none (e ∷ ns) = by (nat_lt e.1 0) refl (below_none ns)
    where
      by : (b : Bool) → nat_lt e.1 0 ≡ b → below 0 ns ≡ 0 → cond b (node_weight e.1) 0 + below 0 ns ≡ 0
      by true is h = absurd (let lt = ltb-true _ _ is in omega (arith, lt))
      by false is h = omega (arith, h)

  one_more : (n m : ℕ) → cond (nat_lt n (suc m)) (node_weight n) 0 ≡ cond (nat_lt n m) (node_weight n) 0 + one_if m n * node_weight m
  one_more n m = by (nat_lt n (suc m)) refl (nat_lt n m) refl (n == m) refl
    where
      by : (a : Bool) → nat_lt n (suc m) ≡ a → (b : Bool) → nat_lt n m ≡ b → (e : Bool) → (n == m) ≡ e → cond a (node_weight n) 0 ≡ cond b (node_weight n) 0 + cond e 1 0 * node_weight m
      by true is_a true is_b true is_e = absurd (let lt = ltb-true _ _ is_b in let same = eq_true n m is_e in omega (arith, lt, same))
      by true is_a true is_b false is_e = let none = none_times (node_weight m) in omega (arith, none)
      by true is_a false is_b true is_e = ap node_weight (eq_true n m is_e) ∙ grind arith
      by true is_a false is_b false is_e = absurd (let lt = ltb-true _ _ is_a in let ge = ltb-false _ _ is_b in let other = eq_false n m is_e in omega (arith, lt, ge, other))
      by false is_a true is_b e is_e = absurd (let ge = ltb-false _ _ is_a in let lt = ltb-true _ _ is_b in omega (arith, lt, ge))
      by false is_a false is_b true is_e = absurd (let ge = ltb-false _ _ is_a in let same = eq_true n m is_e in omega (arith, same, ge))
      by false is_a false is_b false is_e = let none = none_times (node_weight m) in omega (arith, none)

  below_more : (m : ℕ) (ns : Numbers) → below (suc m) ns ≡ below m ns + paths_with m ns * node_weight m
  below_more m [] = let none = none_times (node_weight m) in omega (arith, none)
  below_more m (e ∷ ns) =
      let one = one_more e.1 m in
      let more = below_more m ns in
      let both = sum_times (one_if m e.1) (paths_with m ns) (node_weight m) in
      omega (arith, one, more, both)

  module _ (ns : Numbers) (counted : (n : ℕ) → count_at k n ≡ paths_with n ns) where
    weight_below : (m : ℕ) → weight_before w k m ≡ below m ns
    weight_below zero = sym (below_none ns)
    weight_below (suc m) = (λ i. weight_below m i + counted m i * node_weight m) ∙ sym (below_more m ns)

  below_all : (ns : Numbers) → AreUsed k ns → below (length k.0) ns ≡ weight_of w (entries_by k ns)
  below_all [] used = refl
  below_all (e ∷ ns) used =
      let x = used.0.0 in
      let is : node_at k e.1 ≡ Some x = used.0.1 in
      let lt : e.1 < length k.0 = node_within k.0 e.1 x is in
      (λ i. cond (within e.1 lt i) (option_map_or w (is i) 0) 0 + below_all ns used.1 i)
      ∙ sym (sum_by-cons (λ e. w e.1) (e.0, x) (entries_by k ns))
      ∙ ap (λ es. weight_of w es) (sym (entry_first k e ns x is))
    where
      within : (n : ℕ) → n < length k.0 → nat_lt n (length k.0) ≡ true
      within n lt = by (nat_lt n (length k.0)) refl
        where
          by : (b : Bool) → nat_lt n (length k.0) ≡ b → b ≡ true
          by true is = refl
          by false is = absurd (let ge = ltb-false _ _ is in omega (arith, lt, ge))

  -- what counts for all numbers is what counts for all entries
  pub weight_all : (ns : Numbers) → AreSound k ns → weight_before w k (length k.0) ≡ weight_of w (entries_by k ns)
  weight_all ns sound = weight_below ns sound.counted (length k.0) ∙ below_all ns sound.used

-- ---- entries

module _ {N M : Type 0} (f : N → M) (k : KindsOf N) (k' : KindsOf M) where
  pub entries_renewed : (ns : Numbers) → AreUsed k ns → AllByRecursion (λ e. node_at k' e.1 ≡ option_map f (node_at k e.1)) ns → entries_by k' ns ≡ renewed f (entries_by k ns)
  entries_renewed [] used h = refl
  entries_renewed (e ∷ ns) used h =
      let x = used.0.0 in
      let is : node_at k e.1 ≡ Some x = used.0.1 in
      (λ i. with_node e.0 ((h.0 ∙ ap (option_map f) is) i) (entries_renewed ns used.1 h.1 i))
      ∙ ap (λ es. renewed f es) (sym (entry_first k e ns x is))

  module _ (ns : Numbers) (sound : AreSound k ns) (h : Renews f k k') where
    are : AllByRecursion (λ e. node_at k' e.1 ≡ option_map f (node_at k e.1)) ns
    are =
        all_weaker (λ e. 0 < count_at k e.1) (λ e. node_at k' e.1 ≡ option_map f (node_at k e.1)) (λ e lt. h.nodes e.1 lt) ns
        (counted_all (count_at k) ns (λ n. let same = sound.counted n in omega (arith, same)))

    pub renewed_entries : entries_by k' ns ≡ renewed f (entries_by k ns)
    renewed_entries = entries_renewed ns sound.used are

    pub renewed_sound : AreSound k' ns
    renewed_sound = record {
      order = sound.order;
      used = used ns sound.used are;
      counted = λ n. h.counts n ∙ sound.counted n;
    }
      where
        used : (xs : Numbers) → AreUsed k xs → AllByRecursion (λ e. node_at k' e.1 ≡ option_map f (node_at k e.1)) xs → AreUsed k' xs
        used [] u a = tt
        used (e ∷ xs) u a = ((f u.0.0, a.0 ∙ ap (option_map f) u.0.1), used xs u.1 a.1)
