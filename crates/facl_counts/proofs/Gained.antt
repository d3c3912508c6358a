-- What is gained, by the bits of what is granted before and after.
use Rattle.std.proofs.Common.{◌≡◌, ℕ, zero, suc, ◌/◌, ◌^◌, ◌<◌, Bool, true, false, not, cond, eqb, List, [], ◌∷◌, map, filter, refl, sym, ap, ◌∙◌, arith}
use Rattle.std.specs.Prelude.{◌||◌}
use Rattle.std.specs.Int.{bit_at}
use Rattle.std.specs.List.{list_any, AllByRecursion}
use Rattle.std.proofs.lemmas.Bool.{true≢false, or_parts, or_from, true_from_ne_false, eqb-true, eqb-false}
use Rattle.std.proofs.lemmas.Bool.Decides.{nat_tests}
use Rattle.std.proofs.lemmas.Nat.Bits.{bit_at-suc, bit_at-lt, same_from_bits_below}
use Rattle.acl_entry.specs.Check.{has}
use Rattle.acl_entry.specs.Perms.{Perms, numbered}
use Rattle.facl_counts.specs.GainsText.{is_gained}

module _ (f g : Perms → Bool) where
  -- nothing is gained where the same is granted before and after
  none_gained : (qs : List Perms) → AllByRecursion (λ q. f q ≡ g q) qs → list_any (λ q. not (f q)) (filter g qs) ≡ false
  none_gained [] same = refl
  none_gained (q ∷ qs) same = by (g q) refl (none_gained qs same.1)
    where
      by : (b : Bool) → g q ≡ b → list_any (λ q. not (f q)) (filter g qs) ≡ false → list_any (λ q. not (f q)) (cond b (q ∷ filter g qs) (filter g qs)) ≡ false
      by true is more = ap (λ b. not b || list_any (λ q. not (f q)) (filter g qs)) (same.0 ∙ is) ∙ more
      by false is more = more

  -- the same is granted where nothing is gained and nothing lost
  all_same : (qs : List Perms) → list_any (λ q. not (f q)) (filter g qs) ≡ false → list_any (λ q. not (g q)) (filter f qs) ≡ false → AllByRecursion (λ q. f q ≡ g q) qs
  all_same [] gained lost = tt
  all_same (q ∷ qs) gained lost = by (f q) (g q) refl refl gained lost (all_same qs)
    where
      by : (x y : Bool) → f q ≡ x → g q ≡ y → list_any (λ q. not (f q)) (cond y (q ∷ filter g qs) (filter g qs)) ≡ false
          → list_any (λ q. not (g q)) (cond x (q ∷ filter f qs) (filter f qs)) ≡ false
          → (list_any (λ q. not (f q)) (filter g qs) ≡ false → list_any (λ q. not (g q)) (filter f qs) ≡ false → AllByRecursion (λ q. f q ≡ g q) qs)
          → AllByRecursion (λ q. f q ≡ g q) (q ∷ qs)
      by true true was is gained lost more = (was ∙ sym is, more (or_parts _ _ gained).1 (or_parts _ _ lost).1)
      by true false was is gained lost more = absurd (true≢false (sym (ap not is) ∙ (or_parts _ _ lost).0))
      by false true was is gained lost more = absurd (true≢false (sym (ap not was) ∙ (or_parts _ _ gained).0))
      by false false was is gained lost more = (was ∙ sym is, more gained lost)

one_bit : (m n : ℕ) → m < 2 → n < 2 → eqb m 1 ≡ eqb n 1 → m ≡ n
one_bit m n p q h = grind (arith, nat_tests)

abbrev requests : List Perms
requests = map numbered (1 ∷ 2 ∷ 3 ∷ 4 ∷ 5 ∷ 6 ∷ 7 ∷ [])

module _ (before after : ℕ) where
  bit_same : (i : ℕ) → eqb (bit_at before (suc i)) 1 ≡ eqb (bit_at after (suc i)) 1 → bit_at (before / 2) i ≡ bit_at (after / 2) i
  bit_same i h = sym (bit_at-suc before i) ∙ one_bit _ _ (bit_at-lt before (suc i)) (bit_at-lt after (suc i)) h ∙ bit_at-suc after i

  bits_same : AllByRecursion (λ q. has before q ≡ has after q) requests → (i : ℕ) → i < 7 → bit_at (before / 2) i ≡ bit_at (after / 2) i
  bits_same h zero lt = bit_same 0 h.0
  bits_same h (suc zero) lt = bit_same 1 h.1.0
  bits_same h (suc (suc zero)) lt = bit_same 2 h.1.1.0
  bits_same h (suc (suc (suc zero))) lt = bit_same 3 h.1.1.1.0
  bits_same h (suc (suc (suc (suc zero)))) lt = bit_same 4 h.1.1.1.1.0
  bits_same h (suc (suc (suc (suc (suc zero))))) lt = bit_same 5 h.1.1.1.1.1.0
  bits_same h (suc (suc (suc (suc (suc (suc zero)))))) lt = bit_same 6 h.1.1.1.1.1.1.0
  bits_same h (suc (suc (suc (suc (suc (suc (suc i))))))) lt = absurd (omega (arith, lt))

  granted_same : before / 2 ≡ after / 2 → (i : ℕ) → eqb (bit_at before (suc i)) 1 ≡ eqb (bit_at after (suc i)) 1
  granted_same same i = ap (λ n. eqb n 1) (bit_at-suc before i ∙ ap (λ n. bit_at n i) same ∙ sym (bit_at-suc after i))

  all_granted_same : before / 2 ≡ after / 2 → AllByRecursion (λ q. has before q ≡ has after q) requests
  all_granted_same same =
      let at = granted_same same in
      (at 0, (at 1, (at 2, (at 3, (at 4, (at 5, (at 6, tt)))))))

pub no_gain : (n : ℕ) → is_gained n n ≡ false
no_gain n = none_gained (has n) (has n) requests (all_granted_same n n refl)

-- other requests are granted after than before, but for that of nothing, where the bytes differ above their lowest bit
pub gained_by_halves : (before after : ℕ) → before < 2 ^ 8 → after < 2 ^ 8 → not (eqb (before / 2) (after / 2)) ≡ (is_gained before after || is_gained after before)
gained_by_halves before after was is = by (eqb (before / 2) (after / 2)) refl
  where
    by : (b : Bool) → eqb (before / 2) (after / 2) ≡ b → not b ≡ (is_gained before after || is_gained after before)
    by true h =
        let same = eqb-true (before / 2) (after / 2) h in
        sym (or_from _ _ (none_gained (has before) (has after) requests (all_granted_same before after same))
        (none_gained (has after) (has before) requests (all_granted_same after before (sym same))))
    by false h = sym (true_from_ne_false _ (λ none.
        let parts = or_parts (is_gained before after) (is_gained after before) none in
        eqb-false (before / 2) (after / 2) h
        (same_from_bits_below 7 (before / 2) (after / 2) (omega (arith, was)) (omega (arith, is))
        (bits_same before after (all_same (has before) (has after) requests parts.0 parts.1)))))
