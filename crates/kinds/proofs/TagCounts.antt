-- How many paths have numbers that rise.
use Rattle.std.proofs.Common.{◌≡◌, ℕ, ◌+◌, ◌<◌, ◌≤◌, ◌||◌, Bool, true, false, cond, List, [], ◌∷◌, nat_cmp, Less, refl, sym, ap, subst, ◌∙◌, arith}
use Rattle.std.specs.Prelude.{◌==◌, count_by, if◌then◌else◌}
use Rattle.std.specs.List.{sum_by, AllByRecursion}
use Rattle.std.specs.List.Sorted.{IsStrictlySortedBy, IsStrictlyIncreasing}
use Rattle.std.specs.Option.{option_map_or}
use Rattle.std.proofs.lemmas.List.Sums.{sum_by-cons}
use Rattle.std.proofs.lemmas.Map.Keys.{sorted_from_strictly_increasing}
use Rattle.acl_names.specs.Paths.{PathOf}
use Rattle.kinds.specs.Kinds.{KindsOf, count_at}
use Rattle.kinds.specs.Numbered.{Numbers, entries_by, one_if, paths_with, AreUsed, AreSound}
use Rattle.kinds.specs.Tagged.{is_one, meets, tags_at}
use Rattle.kinds.proofs.Numbers.{eq_self, eq_true}
use Rattle.kinds.proofs.EntriesBy.{entry_first}
use Rattle.kinds.proofs.GivenNodes.{used_some}

sum_none : {A : Type 0} (xs : List A) → sum_by (λ x. 0) xs ≡ 0
sum_none [] = refl
sum_none (x ∷ xs) = let more = sum_none xs in let first = sum_by-cons (λ x. 0) x xs in omega (arith, more, first)

sum_both : {A : Type 0} (f g : A → ℕ) (xs : List A) → sum_by (λ x. f x + g x) xs ≡ sum_by f xs + sum_by g xs
sum_both f g [] = refl
sum_both f g (x ∷ xs) =
    let more = sum_both f g xs in
    let both = sum_by-cons (λ x. f x + g x) x xs in
    let left = sum_by-cons f x xs in
    let right = sum_by-cons g x xs in
    omega (arith, more, both, left, right)

-- a number before all of these is none of them
none_of : (m : ℕ) (ns : List ℕ) → AllByRecursion (λ n. nat_cmp m n ≡ Less) ns → sum_by (λ n. one_if n m) ns ≡ 0
none_of m [] h = refl
none_of m (n ∷ ns) h =
    let more = none_of m ns h.1 in
    let first = sum_by-cons (λ n. one_if n m) n ns in
    let less : m < n = let before = h.0 in grind (arith, before) in
    let apart : (m == n) ≡ false = grind (arith, less) in
    let none : one_if n m ≡ 0 = ap {B = ℕ} (λ b. if b then 1 else 0) apart in
    omega (arith, more, first, none)

-- one of numbers that rise is there once
once_first : (m n : ℕ) (ns : List ℕ) → AllByRecursion (λ j. nat_cmp n j ≡ Less) ns → sum_by (λ n. one_if n m) ns ≡ cond (is_one m ns) 1 0
    → (a : Bool) → (m == n) ≡ a → (b : Bool) → (n == m) ≡ b → cond a 1 0 + sum_by (λ n. one_if n m) ns ≡ cond (b || is_one m ns) 1 0
once_first m n ns before rest true is true same =
    let none : sum_by (λ n. one_if n m) ns ≡ 0 = none_of m ns (subst (λ i. AllByRecursion (λ j. nat_cmp i j ≡ Less) ns) (sym (eq_true m n is)) before) in
    omega (arith, none)
once_first m n ns before rest true is false same = let no_way : true ≡ false = sym (eq_self n) ∙ ap (λ i. n == i) (sym (eq_true m n is)) ∙ same in cc
once_first m n ns before rest false is true same = let no_way : true ≡ false = sym (eq_self m) ∙ ap (λ i. m == i) (sym (eq_true n m same)) ∙ is in cc
once_first m n ns before rest false is false same = omega (arith, rest)

once : (m : ℕ) (ns : List ℕ) → IsStrictlySortedBy nat_cmp ns → sum_by (λ n. one_if n m) ns ≡ cond (is_one m ns) 1 0
unfolding IsStrictlySortedBy
once m [] rises = refl
once m (n ∷ ns) rises = sum_by-cons (λ n. one_if n m) n ns ∙ once_first m n ns rises.0 (once m ns rises.1) (m == n) refl (n == m) refl

counted : (numbers : List ℕ) → IsStrictlySortedBy nat_cmp numbers → (ns : Numbers) → sum_by (λ n. paths_with n ns) numbers ≡ count_by (λ (e : PathOf × ℕ). is_one e.1 numbers) ns
counted numbers rises [] = sum_none numbers
counted numbers rises (e ∷ ns) =
    let more = counted numbers rises ns in
    let both = sum_both (λ n. one_if n e.1) (λ n. paths_with n ns) numbers in
    let one = once e.1 numbers rises in
    let first = sum_by-cons (λ (e : PathOf × ℕ). cond (is_one e.1 numbers) 1 0) e ns in
    omega (arith, more, both, one, first)

pub counted_numbers : {N : Type 0} (k : KindsOf N) (numbers : List ℕ) (ns : Numbers) → IsStrictlyIncreasing numbers → AreSound k ns
    → sum_by (count_at k) numbers ≡ count_by (λ (e : PathOf × ℕ). is_one e.1 numbers) ns
counted_numbers k numbers ns rises sound = (λ i. sum_by (λ n. sound.counted n i) numbers) ∙ counted numbers (sorted_from_strictly_increasing numbers rises) ns

module _ {N : Type 0} (tags_of : N → List ℕ) (wanted : List ℕ) (k : KindsOf N) (numbers : List ℕ) (exact : (n : ℕ) → is_one n numbers ≡ meets (tags_at tags_of k n) wanted) where
  by_entries : (es : Numbers) → AreUsed k es → ((n : ℕ) → paths_with n es ≤ count_at k n)
      → count_by (λ (e : PathOf × ℕ). is_one e.1 numbers) es ≡ count_by (λ (e : PathOf × N). meets (tags_of e.1) wanted) (entries_by k es)
  by_entries [] used few = refl
  by_entries (e ∷ es) used few =
      let x : N = used.0.0 in
      let more = by_entries es used.1 (λ n. let most = few n in omega (arith, most)) in
      let some : 0 < count_at k e.1 = let most = few e.1 in let one : one_if e.1 e.1 ≡ 1 = ap {B = ℕ} (λ b. if b then 1 else 0) (eq_self e.1) in omega (arith, most, one) in
      let same : is_one e.1 numbers ≡ meets (tags_of x) wanted = exact e.1 ∙ ap (λ o. meets (option_map_or tags_of o []) wanted) (used_some k e.1 some ∙ used.0.1) in
      let left = sum_by-cons (λ (e : PathOf × ℕ). cond (is_one e.1 numbers) 1 0) e es in
      let right = sum_by-cons (λ (e : PathOf × N). cond (meets (tags_of e.1) wanted) 1 0) (e.0, x) (entries_by k es) in
      let first = ap (count_by (λ (e : PathOf × N). meets (tags_of e.1) wanted)) (entry_first k e es x used.0.1) in
      let one = ap {B = ℕ} (λ b. cond b 1 0) same in
      omega (arith, more, left, right, first, one)

  pub counted_tagged : (ns : Numbers) → IsStrictlyIncreasing numbers → AreSound k ns → sum_by (count_at k) numbers ≡ count_by (λ (e : PathOf × N). meets (tags_of e.1) wanted) (entries_by k ns)
  counted_tagged ns rises sound =
      counted_numbers k numbers ns rises sound ∙ by_entries ns sound.used (λ n. let e = sound.counted n in omega (arith, e))
