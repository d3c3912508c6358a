-- How many paths have nodes that pass a test, counted number by number.
use Rattle.std.proofs.Common.{◌≡◌, ℕ, ◌+◌, ◌<◌, ◌&&◌, Bool, true, false, cond, [], ◌∷◌, Some, inl, inr, nat_lt, refl, sym, ap, ◌∙◌, arith}
use Rattle.std.specs.Prelude.{◌==◌, count_by, if◌then◌else◌}
use Rattle.std.proofs.lemmas.Bool.{cases_lt}
use Rattle.std.proofs.lemmas.List.Sums.{sum_by-cons}
use Rattle.acl_names.specs.Paths.{PathOf}
use Rattle.kinds.specs.Kinds.{KindsOf, node_at}
use Rattle.kinds.specs.Numbered.{Numbers, entries_by, one_if, paths_with, AreUsed}
use Rattle.kinds.specs.Passing.{passed}
use Rattle.kinds.proofs.EntriesBy.{entry_first}

abbrev one_of : Bool → ℕ
one_of b = cond b 1 0

nothing : (b : Bool) (n : ℕ) → n ≡ 0 → cond b n 0 ≡ 0
nothing true n none = none
nothing false n none = refl

both_if : (b : Bool) (m n : ℕ) → cond b (m + n) 0 ≡ cond b m 0 + cond b n 0
both_if true m n = refl
both_if false m n = refl

module _ {N : Type 0} (test : N → Bool) (k : KindsOf N) where
  abbrev pub passes : ℕ → Bool
  passes n = passed test (node_at k n)

  -- whether a number is below an end, and its node passes
  abbrev pub passes_before : ℕ → ℕ → Bool
  passes_before end n = nat_lt n end && passes n

  less : (end n : ℕ) → n < end → one_of (passes_before (end + 1) n) ≡ one_of (passes_before end n) + cond (passes end) (one_if end n) 0
  less end n before =
      let lt : nat_lt n end ≡ true = grind (arith, before) in
      let more : nat_lt n (end + 1) ≡ true = grind (arith, before) in
      let apart : (n == end) ≡ false = grind (arith, before) in
      let none = nothing (passes end) (one_if end n) (ap {B = ℕ} (λ b. if b then 1 else 0) apart) in
      let same : one_of (passes_before (end + 1) n) ≡ one_of (passes_before end n) = ap (λ b. one_of (b && passes n)) (more ∙ sym lt) in
      omega (arith, none, same)

  greater : (end n : ℕ) → end < n → one_of (passes_before (end + 1) n) ≡ one_of (passes_before end n) + cond (passes end) (one_if end n) 0
  greater end n after =
      let lt : nat_lt n end ≡ false = grind (arith, after) in
      let more : nat_lt n (end + 1) ≡ false = grind (arith, after) in
      let apart : (n == end) ≡ false = grind (arith, after) in
      let none = nothing (passes end) (one_if end n) (ap {B = ℕ} (λ b. if b then 1 else 0) apart) in
      let same : one_of (passes_before (end + 1) n) ≡ one_of (passes_before end n) = ap (λ b. one_of (b && passes n)) (more ∙ sym lt) in
      omega (arith, none, same)

  equal : (end : ℕ) → one_of (passes_before (end + 1) end) ≡ one_of (passes_before end end) + cond (passes end) (one_if end end) 0
  equal end =
      let lt : nat_lt end end ≡ false = grind arith in
      let more : nat_lt end (end + 1) ≡ true = grind arith in
      let one : one_if end end ≡ 1 = let same : (end == end) ≡ true = grind arith in ap {B = ℕ} (λ b. if b then 1 else 0) same in
      let here : one_of (passes_before (end + 1) end) ≡ cond (passes end) 1 0 = ap (λ b. one_of (b && passes end)) more in
      let none : one_of (passes_before end end) ≡ 0 = ap (λ b. one_of (b && passes end)) lt in
      let last : cond (passes end) (one_if end end) 0 ≡ cond (passes end) 1 0 = ap (λ n. cond (passes end) n 0) one in
      omega (arith, here, none, last)

  one_number : (end n : ℕ) → one_of (passes_before (end + 1) n) ≡ one_of (passes_before end n) + cond (passes end) (one_if end n) 0
  one_number end n =
      elim (cases_lt n end) [
        | inl before ↦ less end n before
        | inr past ↦ elim (cases_lt end n) [
          | inl after ↦ greater end n after
          | inr not_after ↦ let same : n ≡ end = omega (arith, past, not_after) in
              (λ i. one_of (passes_before (end + 1) (same i))) ∙ equal end ∙ (λ i. one_of (passes_before end (sym same i)) + cond (passes end) (one_if end (sym same i)) 0)
        ]
      ]

  pub none_before : (es : Numbers) → 0 ≡ count_by (λ (e : PathOf × ℕ). passes_before 0 e.1) es
  none_before [] = refl
  none_before (e ∷ es) =
      let more = none_before es in
      let none : nat_lt e.1 0 ≡ false = grind arith in
      let first : one_of (passes_before 0 e.1) ≡ 0 = ap (λ b. one_of (b && passes e.1)) none in
      let sum = sum_by-cons (λ (x : PathOf × ℕ). one_of (passes_before 0 x.1)) e es in
      omega (arith, more, first, sum)

  -- one number more
  pub one_more : (end : ℕ) (es : Numbers)
      → count_by (λ (e : PathOf × ℕ). passes_before (end + 1) e.1) es ≡ count_by (λ (e : PathOf × ℕ). passes_before end e.1) es + cond (passes end) (paths_with end es) 0
  one_more end [] = let none = nothing (passes end) 0 refl in omega (arith, none)
  one_more end (e ∷ es) =
      let after = sum_by-cons (λ (x : PathOf × ℕ). one_of (passes_before (end + 1) x.1)) e es in
      let before = sum_by-cons (λ (x : PathOf × ℕ). one_of (passes_before end x.1)) e es in
      let one = one_number end e.1 in
      let more = one_more end es in
      let sum = both_if (passes end) (one_if end e.1) (paths_with end es) in
      omega (arith, after, before, one, more, sum)

  -- all numbers
  pub all_before : (end : ℕ) → ((n : ℕ) (x : N) → node_at k n ≡ Some x → n < end) → (es : Numbers) → AreUsed k es
      → count_by (λ (e : PathOf × ℕ). passes_before end e.1) es ≡ count_by (λ (e : PathOf × N). test e.1) (entries_by k es)
  all_before end within [] used = refl
  all_before end within (e ∷ es) used =
      let x : N = used.0.0 in
      let lt = within e.1 x used.0.1 in
      let inside : nat_lt e.1 end ≡ true = grind (arith, lt) in
      let same : passes_before end e.1 ≡ test x = λ i. inside i && passed test (used.0.1 i) in
      let left = sum_by-cons (λ (y : PathOf × ℕ). one_of (passes_before end y.1)) e es in
      let right = sum_by-cons (λ (y : PathOf × N). one_of (test y.1)) (e.0, x) (entries_by k es) in
      let first = ap (count_by (λ (y : PathOf × N). test y.1)) (entry_first k e es x used.0.1) in
      let one = ap one_of same in
      let more = all_before end within es used.1 in
      omega (arith, more, left, right, first, one)
