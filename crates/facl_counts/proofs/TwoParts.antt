-- Counts of users in two parts, wide and narrow numbers.
use Rattle.std.proofs.Common.{◌≡◌, ℕ, zero, suc, ◌+◌, ◌^◌, ◌<◌, ◌≤◌, cond, List, [], ◌∷◌, ◌++◌, length, take, drop, replicate, get_or, Some, None, refl, sym, ap, ap₂, subst, subst₂, ◌∙◌, arith}
use Rattle.std.specs.Prelude.{slice_get}
use Rattle.std.proofs.lemmas.List.{drop_all, get_or-drop}
use Rattle.acl_entry.specs.Check.{has}
use Rattle.acl_entry.specs.Perms.{Perms}
use Rattle.facl_counts.specs.SumLists.{counts_after, totals, AreKept, AreSmall, AreWithin}
use Rattle.facl_counts.proofs.SumsApart.{ended, no_counts, within_after}

-- ---- what is added to a part is added to the counts

to_second : (n m k : ℕ) → n + (m + k) ≡ (n + m) + k
to_second n m k = omega arith

to_first : (n m k : ℕ) → (n + k) + m ≡ (n + m) + k
to_first n m k = omega arith

module _ (q : Perms) (more : ℕ) where
  pub few_added : (row wide narrow : List ℕ) → totals wide (counts_after q more row narrow) ≡ counts_after q more row (totals wide narrow)
  few_added row [] narrow = refl
  few_added row (n ∷ wide) [] = refl
  few_added [] (n ∷ wide) (m ∷ narrow) = refl
  few_added (c ∷ row) (n ∷ wide) (m ∷ narrow) = λ i. to_second n m (cond (has c q) more 0) i ∷ few_added row wide narrow i

  pub many_added : (row wide narrow : List ℕ) → totals (counts_after q more row wide) narrow ≡ counts_after q more row (totals wide narrow)
  many_added row [] narrow = refl
  many_added [] (n ∷ wide) [] = refl
  many_added [] (n ∷ wide) (m ∷ narrow) = refl
  many_added (c ∷ row) (n ∷ wide) [] = refl
  many_added (c ∷ row) (n ∷ wide) (m ∷ narrow) = λ i. to_first n m (cond (has c q) more 0) i ∷ many_added row wide narrow i

-- narrow parts of zero, once they were added to the wide ones
pub settled : (wide narrow : List ℕ) → totals (totals wide narrow) (replicate (length narrow) 0) ≡ totals wide narrow
settled [] narrow = refl
settled (n ∷ wide) [] = refl
settled (n ∷ wide) (m ∷ narrow) = let same : (n + m) + 0 ≡ n + m = omega arith in λ i. same i ∷ settled wide narrow i

-- ---- bounds

module _ (bound more : ℕ) where
  pub wide_small : (wide narrow : List ℕ) → length wide ≡ length narrow → AreSmall bound more (totals wide narrow) → AreSmall bound more wide
  wide_small [] narrow long h = tt
  wide_small (n ∷ wide) [] long h = absurd (omega (arith, long))
  wide_small (n ∷ wide) (m ∷ narrow) long h = (omega (arith, h.0), wide_small wide narrow (omega (arith, long)) h.1)

  pub no_more : (counts : List ℕ) → AreSmall bound more counts → AreSmall bound 0 counts
  no_more [] h = tt
  no_more (n ∷ counts) h = (omega (arith, h.0), no_more counts h.1)

same_here : (at : ℕ) (xs ys : List ℕ) → drop at xs ≡ drop at ys → get_or xs at 0 ≡ get_or ys at 0
same_here at xs ys rest = sym (head xs) ∙ ap (λ (l : List ℕ). get_or l 0 0) rest ∙ head ys
  where
    head : (l : List ℕ) → get_or (drop at l) 0 0 ≡ get_or l at 0
    head l = let same : at + 0 ≡ at = omega arith in get_or-drop at l 0 0 ∙ ap (λ k. get_or l k 0) same

small_here : (bound : ℕ) (wide narrow : List ℕ) (at : ℕ) → at < length wide → at < length narrow → AreSmall bound 0 (totals wide narrow) → get_or wide at 0 + get_or narrow at 0 < bound
small_here bound [] narrow at a b h = absurd (omega (arith, a))
small_here bound (n ∷ wide) [] at a b h = absurd (omega (arith, b))
small_here bound (n ∷ wide) (m ∷ narrow) zero a b h = omega (arith, h.0)
small_here bound (n ∷ wide) (m ∷ narrow) (suc at) a b h = small_here bound wide narrow at (omega (arith, a)) (omega (arith, b)) h.1

-- where the narrow parts are added from the front, the next one fits
pub next_fits : (bound : ℕ) (now wide narrow : List ℕ) (at : ℕ) → at < length wide → at < length narrow → drop at now ≡ drop at wide → AreSmall bound 0 (totals wide narrow)
    → get_or now at 0 + get_or narrow at 0 < bound
next_fits bound now wide narrow at a b rest h = subst (λ n. n + get_or narrow at 0 < bound) (sym (same_here at now wide rest)) (small_here bound wide narrow at a b h)

pub totals_end : (i : ℕ) (now wide narrow : List ℕ) → length wide ≤ i → drop i now ≡ drop i wide → take i now ++ totals (drop i wide) (drop i narrow) ≡ totals wide narrow → now ≡ totals wide narrow
totals_end i now wide narrow past rest done =
    let none : drop i wide ≡ [] = drop_all i wide past in
    ended i now wide (totals (drop i wide) (drop i narrow)) (totals wide narrow) rest (ap (λ l. totals l (drop i narrow)) none ∙ sym none) done

-- ---- the counts that are kept

none_yet : (n : ℕ) → totals (replicate n 0) (replicate n 0) ≡ replicate n 0
none_yet zero = refl
none_yet (suc n) = ap (λ (l : List ℕ). 0 ∷ l) (none_yet n)

pub no_files : (n : ℕ) (wide narrow : List ℕ) → wide ≡ replicate n 0 → narrow ≡ replicate n 0 → totals wide narrow ≡ replicate n 0
no_files n wide narrow one two = ap₂ totals one two ∙ none_yet n

pub none_kept : (n : ℕ) (wide narrow : List ℕ) → wide ≡ replicate n 0 → narrow ≡ replicate n 0 → AreKept 0 0 wide narrow
none_kept n wide narrow one two = record {
  fits = omega arith;
  long = ap length (one ∙ sym two);
  within = subst (AreWithin 0) (sym (no_files n wide narrow one two)) (no_counts n);
  few = subst (AreWithin 0) (sym two) (no_counts n);
}

pub kept_after : (q : Perms) (all more was most total : ℕ) (row wide narrow new few wide-new narrow-new : List ℕ) → AreKept all was wide narrow
    → total < 2 ^ 64 → total ≡ all + more → wide-new ≡ new → narrow-new ≡ few
    → length new ≡ length wide → length few ≡ length narrow → totals new few ≡ counts_after q more row (totals wide narrow) → AreWithin most few → AreKept total most wide-new narrow-new
kept_after q all more was most total row wide narrow new few wide-new narrow-new kept fits sum one two long-wide long-narrow added within = record {
  fits = fits;
  long = ap length one ∙ long-wide ∙ kept.long ∙ sym (ap length two ∙ long-narrow);
  within = subst₂ AreWithin (sym sum) (sym (ap₂ totals one two ∙ added)) (within_after q all more row (totals wide narrow) kept.within);
  few = subst (AreWithin most) (sym two) within;
}

pub total_at : (wide narrow : List ℕ) (at n m : ℕ) → Some n ≡ slice_get wide at → Some m ≡ slice_get narrow at → Some (n + m) ≡ slice_get (totals wide narrow) at
total_at [] narrow at n m one two = absurd (cc one)
total_at (x ∷ wide) [] at n m one two = absurd (cc two)
total_at (x ∷ wide) (y ∷ narrow) zero n m one two =
    let same : n ≡ x = cc in
    let is : m ≡ y = cc in
    λ i. Some (same i + is i)
total_at (x ∷ wide) (y ∷ narrow) (suc at) n m one two = total_at wide narrow at n m one two

pub no_wide_at : (wide narrow : List ℕ) (at : ℕ) → None ≡ slice_get wide at → None ≡ slice_get (totals wide narrow) at
no_wide_at [] narrow at none = refl
no_wide_at (x ∷ wide) [] at none = refl
no_wide_at (x ∷ wide) (y ∷ narrow) zero none = absurd (cc none)
no_wide_at (x ∷ wide) (y ∷ narrow) (suc at) none = no_wide_at wide narrow at none

pub no_narrow_at : (wide narrow : List ℕ) (at : ℕ) → None ≡ slice_get narrow at → None ≡ slice_get (totals wide narrow) at
no_narrow_at [] narrow at none = refl
no_narrow_at (x ∷ wide) [] at none = refl
no_narrow_at (x ∷ wide) (y ∷ narrow) zero none = absurd (cc none)
no_narrow_at (x ∷ wide) (y ∷ narrow) (suc at) none = no_narrow_at wide narrow at none

pub within_at : (most : ℕ) (counts : List ℕ) (at n : ℕ) → AreWithin most counts → Some n ≡ slice_get counts at → n ≤ most
within_at most [] at n h is = absurd (cc is)
within_at most (x ∷ counts) zero n h is = let same : n ≡ x = cc in omega (arith, h.0, same)
within_at most (x ∷ counts) (suc at) n h is = within_at most counts at n h.1 is
