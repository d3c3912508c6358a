-- Numbers that no path got or lost: their nodes are the same.
use Rattle.std.proofs.Common.{◌≡◌, ℕ, zero, suc, ◌+◌, ◌<◌, ◌||◌, Bool, true, false, true≢false, cond, List, [], ◌∷◌, ◌++◌, length, take, get_or, append_assoc}
use Rattle.std.proofs.Common.{Option, Some, None, refl, sym, ap, ◌∙◌, arith, nat_lt, ltb-true, ltb-false}
use Rattle.std.specs.Prelude.{◌==◌}
use Rattle.std.proofs.lemmas.List.{take_more}
use Rattle.acl_names.specs.Paths.{PathOf}
use Rattle.kinds.specs.Kinds.{KindsOf, count_at}
use Rattle.kinds.specs.Numbered.{Numbers, one_if, paths_with, AreSound}
use Rattle.kinds.specs.Inner.{AddsAll, ReleasesAll, found_with}
use Rattle.kinds.specs.Placed.{ArePlaces, by_place}
use Rattle.kinds.specs.Given.{used_at}
use Rattle.kinds.specs.Tagged.{is_one, numbers_found, SameBut}
use Rattle.kinds.proofs.ByNumber.{used_number}
use Rattle.kinds.proofs.GivenNodes.{used_some, used_none}

pub neither : (a b : Bool) → (a || b) ≡ false → (a ≡ false) × (b ≡ false)
neither true b h = absurd (true≢false h)
neither false b h = (refl, h)

pub none_found : (n : ℕ) (os : List (Option ℕ)) → is_one n (numbers_found os) ≡ false → found_with n os ≡ 0
none_found n [] h = refl
none_found n (None ∷ os) h = let rest = none_found n os h in omega (arith, rest)
none_found n (Some m ∷ os) h =
    let both = neither (m == n) (is_one n (numbers_found os)) h in
    let one : one_if n m ≡ 0 = ap (λ b. cond b 1 0) both.0 in
    let rest = none_found n os both.1 in
    omega (arith, one, rest)

found-append : (os ps : List (Option ℕ)) → numbers_found (os ++ ps) ≡ numbers_found os ++ numbers_found ps
found-append [] ps = refl
found-append (None ∷ os) ps = found-append os ps
found-append (Some n ∷ os) ps = ap (λ l. n ∷ l) (found-append os ps)

pub found_more : (os : List (Option ℕ)) (i : ℕ) (d : Option ℕ) (first before new : List ℕ) → i < length os → before ≡ first ++ numbers_found (take i os)
    → new ≡ before ++ numbers_found (get_or os i d ∷ []) → new ≡ first ++ numbers_found (take (i + 1) os)
found_more os i d first before new lt h made =
    made
    ∙ ap (λ l. l ++ numbers_found (get_or os i d ∷ [])) h
    ∙ append_assoc first (numbers_found (take i os)) (numbers_found (get_or os i d ∷ []))
    ∙ ap (λ l. first ++ l) (sym (found-append (take i os) (get_or os i d ∷ [])))
    ∙ ap (λ l. first ++ numbers_found l) (sym (take_more os i d lt))

not_at : (n : ℕ) (xs : List ℕ) (i : ℕ) → i < length xs → is_one n xs ≡ false → (get_or xs i 0 == n) ≡ false
not_at n [] i lt h = absurd (omega (arith, lt))
not_at n (x ∷ xs) zero lt h = (neither (x == n) (is_one n xs) h).0
not_at n (x ∷ xs) (suc i) lt h = not_at n xs i (omega (arith, lt)) (neither (x == n) (is_one n xs) h).1

pub none_placed : (n : ℕ) (numbers : List ℕ) (es : Numbers) → ArePlaces (length numbers) es → is_one n numbers ≡ false → paths_with n (by_place numbers es) ≡ 0
none_placed n numbers [] places h = refl
none_placed n numbers (e ∷ es) places h =
    let one : one_if n (get_or numbers e.1 0) ≡ 0 = ap (λ b. cond b 1 0) (not_at n numbers e.1 places.0 h) in
    let rest = none_placed n numbers es places.1 h in
    omega (arith, one, rest)

module _ {N : Type 0} where
  pub same_released : (k k1 : KindsOf N) (os : List (Option ℕ)) → ReleasesAll k os k1 → SameBut (numbers_found os) k k1
  same_released k k1 os r = λ n h. by n (none_found n os h) (nat_lt 0 (count_at k n)) refl
    where
      by : (n : ℕ) → found_with n os ≡ 0 → (b : Bool) → nat_lt 0 (count_at k n) ≡ b → used_at k1 n ≡ used_at k n
      by n none true is =
          let some = ltb-true _ _ is in
          let counts = r.counts n in
          let left : 0 < count_at k1 n = omega (arith, some, counts, none) in
          used_some k1 n left ∙ r.nodes n left ∙ sym (used_some k n some)
      by n none false is =
          let ge = ltb-false _ _ is in
          let counts = r.counts n in
          used_none k1 n (omega (arith, ge, counts)) ∙ sym (used_none k n (omega (arith, ge)))

  pub same_put : (k0 k1 k2 : KindsOf N) (ns es : Numbers) (puts : List (PathOf × N)) (os : List (Option ℕ)) → AreSound k0 ns → AddsAll k0 puts k1 es → ReleasesAll k1 os k2
      → (n : ℕ) → paths_with n es ≡ 0 → is_one n (numbers_found os) ≡ false → used_at k2 n ≡ used_at k0 n
  same_put k0 k1 k2 ns es puts os sound adds r = λ n none other. same_released k1 k2 os r n other ∙ by n none (nat_lt 0 (count_at k0 n)) refl
    where
      by : (n : ℕ) → paths_with n es ≡ 0 → (b : Bool) → nat_lt 0 (count_at k0 n) ≡ b → used_at k1 n ≡ used_at k0 n
      by n none true is =
          let some = ltb-true _ _ is in
          let counts = adds.counts n in
          let counted = sound.counted n in
          let there = used_number k0 ns n sound.used (omega (arith, some, counted)) in
          used_some k1 n (omega (arith, some, counts)) ∙ adds.extends n there.0 there.1 ∙ sym there.1 ∙ sym (used_some k0 n some)
      by n none false is =
          let ge = ltb-false _ _ is in
          let counts = adds.counts n in
          used_none k1 n (omega (arith, ge, counts, none)) ∙ sym (used_none k0 n (omega (arith, ge)))
