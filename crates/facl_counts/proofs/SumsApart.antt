-- The sums of users, whose counts and first files are in lists of their own.
use Rattle.std.proofs.Common.{◌≡◌, ℕ, zero, suc, ◌+◌, ◌<◌, ◌≤◌, Bool, true, false, cond, not, List, [], ◌∷◌, ◌++◌, append-nil, map, length, take, drop, replicate, Option}
use Rattle.std.proofs.Common.{Some, None, is_some, Bor, refl, sym, ap, ◌∙◌, arith}
use Rattle.std.specs.Prelude.{◌&&◌, option_map, slice_get}
use Rattle.std.specs.Option.{option_or}
use Rattle.std.proofs.lemmas.Bool.{or_parts}
use Rattle.std.proofs.lemmas.List.{take-append-drop, take_all, drop_all}
use Rattle.acl_entry.specs.Check.{has}
use Rattle.acl_entry.specs.Perms.{Perms}
use Rattle.acl_names.specs.Paths.{PathOf}
use Rattle.facl_counts.specs.SumLists.{counts_after, firsts_after, grants_one, waits_of, sums_kept, AreSmall, AreWithin}
use Rattle.facl_counts.specs.Sums.{Sum, no_sum, added, after_row}
use Rattle.facl_answers.specs.BothStates.{Sides}
use Rattle.path_classes.specs.Tallies.{Tallied}

-- ---- loops that are at the end of one of two lists

abbrev pub IsPast : {A B : Type 0} → ℕ → List A → List B → Type 0
IsPast i xs ys = i < length xs → i < length ys → ⊥

module _ (q : Perms) where
  later : {A B : Type 0} (i : ℕ) (x : A) (xs : List A) (y : B) (ys : List B) → IsPast (suc i) (x ∷ xs) (y ∷ ys) → IsPast i xs ys
  later i x xs y ys past a b = past (omega (arith, a)) (omega (arith, b))

  no_row : (waits : List Bool) → grants_one q [] waits ≡ false
  no_row [] = refl
  no_row (w ∷ waits) = refl

  pub none_past : (i : ℕ) (row : List ℕ) (waits : List Bool) → IsPast i row waits → grants_one q (drop i row) (drop i waits) ≡ false
  none_past zero row [] past = refl
  none_past (suc i) row [] past = refl
  none_past zero [] (w ∷ waits) past = refl
  none_past (suc i) [] (w ∷ waits) past = no_row (drop i waits)
  none_past zero (c ∷ row) (w ∷ waits) past = absurd (past (omega arith) (omega arith))
  none_past (suc i) (c ∷ row) (w ∷ waits) past = none_past i row waits (later i c row w waits past)

  same_counts : (more : ℕ) (counts : List ℕ) → counts_after q more [] counts ≡ counts
  same_counts more [] = refl
  same_counts more (n ∷ counts) = refl

  counts_past : (more i : ℕ) (row counts : List ℕ) → IsPast i row counts → counts_after q more (drop i row) (drop i counts) ≡ drop i counts
  counts_past more zero row [] past = refl
  counts_past more (suc i) row [] past = refl
  counts_past more zero [] (n ∷ counts) past = refl
  counts_past more (suc i) [] (n ∷ counts) past = same_counts more (drop i counts)
  counts_past more zero (c ∷ row) (n ∷ counts) past = absurd (past (omega arith) (omega arith))
  counts_past more (suc i) (c ∷ row) (n ∷ counts) past = counts_past more i row counts (later i c row n counts past)

  module _ {A : Type 0} (p : A) where
    same_firsts : (firsts : List (Option A)) → firsts_after q p [] firsts ≡ firsts
    same_firsts [] = refl
    same_firsts (first ∷ firsts) = refl

    firsts_past : (i : ℕ) (row : List ℕ) (firsts : List (Option A)) → IsPast i row firsts → firsts_after q p (drop i row) (drop i firsts) ≡ drop i firsts
    firsts_past zero row [] past = refl
    firsts_past (suc i) row [] past = refl
    firsts_past zero [] (first ∷ firsts) past = refl
    firsts_past (suc i) [] (first ∷ firsts) past = same_firsts (drop i firsts)
    firsts_past zero (c ∷ row) (first ∷ firsts) past = absurd (past (omega arith) (omega arith))
    firsts_past (suc i) (c ∷ row) (first ∷ firsts) past = firsts_past i row firsts (later i c row first firsts past)

pub ended : {A : Type 0} (i : ℕ) (xs start after all : List A) → drop i xs ≡ drop i start → after ≡ drop i start → take i xs ++ after ≡ all → xs ≡ all
ended i xs start after all rest none done = sym (take-append-drop i xs) ∙ ap (λ l. take i xs ++ l) (rest ∙ sym none) ∙ done

pub counts_end : (q : Perms) (more i : ℕ) (row counts start all : List ℕ) → IsPast i row start → drop i counts ≡ drop i start → take i counts ++ counts_after q more (drop i row) (drop i start)
    ≡ all → counts ≡ all
counts_end q more i row counts start all past rest done = ended i counts start (counts_after q more (drop i row) (drop i start)) all rest (counts_past q more i row start past) done

pub firsts_end : {A : Type 0} (q : Perms) (p : A) (i : ℕ) (row : List ℕ) (firsts start all : List (Option A)) → IsPast i row start → drop i firsts ≡ drop i start
    → take i firsts ++ firsts_after q p (drop i row) (drop i start) ≡ all → firsts ≡ all
firsts_end q p i row firsts start all past rest done = ended i firsts start (firsts_after q p (drop i row) (drop i start)) all rest (firsts_past q p i row start past) done

-- ---- counts

pub small : (bound all more : ℕ) (counts : List ℕ) → all + more < bound → AreWithin all counts → AreSmall bound more counts
small bound all more [] fits h = tt
small bound all more (n ∷ counts) fits h = (omega (arith, h.0), small bound all more counts fits h.1)

pub within_after : (q : Perms) (all more : ℕ) (row counts : List ℕ) → AreWithin all counts → AreWithin (all + more) (counts_after q more row counts)
within_after q all more row [] h = tt
within_after q all more [] (n ∷ counts) h = (omega (arith, h.0), wider counts h.1)
  where
    wider : (counts : List ℕ) → AreWithin all counts → AreWithin (all + more) counts
    wider [] h = tt
    wider (n ∷ counts) h = (omega (arith, h.0), wider counts h.1)
within_after q all more (c ∷ row) (n ∷ counts) h = (by (has c q), within_after q all more row counts h.1)
  where
    by : (b : Bool) → n + cond b more 0 ≤ all + more
    by true = omega (arith, h.0)
    by false = omega (arith, h.0)

-- ---- first files

-- no user who waits is granted the request: the first files stay
pub none_waits : {A : Type 0} (q : Perms) (p : A) (row : List ℕ) (firsts : List (Option A)) → grants_one q row (waits_of firsts) ≡ false → firsts_after q p row firsts ≡ firsts
none_waits q p row [] h = refl
none_waits q p [] (first ∷ firsts) h = refl
none_waits {A} q p (c ∷ row) (first ∷ firsts) h =
    let parts = or_parts (not (is_some first) && has c q) (grants_one q row (waits_of firsts)) h in
    λ i. by first (has c q) parts.0 i ∷ none_waits q p row firsts parts.1 i
  where
    by : (first : Option A) (b : Bool) → (not (is_some first) && b) ≡ false → cond b (option_or first (Some p)) first ≡ first
    by None true h = absurd (cc h)
    by None false h = refl
    by (Some x) true h = refl
    by (Some x) false h = refl

-- ---- sums

-- a whole slice that is written is the list
pub whole_now : {A : Type 0} (len : ℕ) (new old was : List A) → length new ≡ length was → was ≡ old → len ≡ length old → take len (new ++ drop (length new) old) ≡ new
whole_now {A} len new old was same is long =
    let all : length new ≡ length old = same ∙ ap length is in
    ap (λ (l : List A). take len (new ++ l)) (drop_all (length new) old (omega arith)) ∙ ap (take len) (append-nil new) ∙ take_all len new (omega arith)

-- nobody has a file yet
pub no_sums : {A : Type 0} (names : List A) → sums_kept (replicate (length names) 0) (replicate (length names) None) ≡ map no_sum names
no_sums [] = refl
no_sums (name ∷ names) = ap (λ (l : List Sum). (0, None) ∷ l) (no_sums names)

pub no_counts : (n : ℕ) → AreWithin 0 (replicate n 0)
no_counts zero = tt
no_counts (suc n) = (omega arith, no_counts n)

pub all_wait : (A : Type 0) (n : ℕ) → replicate n true ≡ waits_of {A = A} (replicate n None)
all_wait A zero = refl
all_wait A (suc n) = ap (λ (l : List Bool). true ∷ l) (all_wait A n)

abbrev seen : Option (Bor PathOf) → Option PathOf
seen first = option_map (λ p. p.now) first

pub row_added : (q : Perms) (t : Tallied Sides) (p : Bor PathOf) (row counts : List ℕ) (firsts : List (Option (Bor PathOf))) → p.now ≡ t.first
    → sums_kept (counts_after q t.count row counts) (firsts_after q p row firsts) ≡ after_row q t row (sums_kept counts firsts)
row_added q t p row [] firsts is = refl
row_added q t p [] (n ∷ counts) [] is = refl
row_added q t p [] (n ∷ counts) (first ∷ firsts) is = refl
row_added q t p (c ∷ row) (n ∷ counts) [] is = refl
row_added q t p (c ∷ row) (n ∷ counts) (first ∷ firsts) is = λ i. by (has c q) i ∷ row_added q t p row counts firsts is i
  where
    first_is : (o : Option (Bor PathOf)) → seen (option_or o (Some p)) ≡ option_or (seen o) (Some t.first)
    first_is None = ap Some is
    first_is (Some x) = refl

    by : (b : Bool) → (n + cond b t.count 0, seen (cond b (option_or first (Some p)) first)) ≡ cond b (added t (n, seen first)) (n, seen first)
    by true = λ i. (n + t.count, first_is first i)
    by false = let same : n + 0 ≡ n = omega arith in λ i. (same i, seen first)

pub sum_at : (counts : List ℕ) (firsts : List (Option (Bor PathOf))) (at n : ℕ) (first : Option (Bor PathOf)) → Some n ≡ slice_get counts at → Some first ≡ slice_get firsts at
    → Some (n, seen first) ≡ slice_get (sums_kept counts firsts) at
sum_at [] firsts at n first one two = absurd (cc one)
sum_at (m ∷ counts) [] at n first one two = absurd (cc two)
sum_at (m ∷ counts) (other ∷ firsts) zero n first one two =
    let same : n ≡ m = cc in
    let is : first ≡ other = cc in
    λ i. Some (same i, seen (is i))
sum_at (m ∷ counts) (other ∷ firsts) (suc at) n first one two = sum_at counts firsts at n first one two

pub no_count_at : (counts : List ℕ) (firsts : List (Option (Bor PathOf))) (at : ℕ) → None ≡ slice_get counts at → None ≡ slice_get (sums_kept counts firsts) at
no_count_at [] firsts at none = refl
no_count_at (m ∷ counts) [] at none = refl
no_count_at (m ∷ counts) (other ∷ firsts) zero none = absurd (cc none)
no_count_at (m ∷ counts) (other ∷ firsts) (suc at) none = no_count_at counts firsts at none

pub no_first_at : (counts : List ℕ) (firsts : List (Option (Bor PathOf))) (at : ℕ) → None ≡ slice_get firsts at → None ≡ slice_get (sums_kept counts firsts) at
no_first_at [] firsts at none = refl
no_first_at (m ∷ counts) [] at none = refl
no_first_at (m ∷ counts) (other ∷ firsts) zero none = absurd (cc none)
no_first_at (m ∷ counts) (other ∷ firsts) (suc at) none = no_first_at counts firsts at none
