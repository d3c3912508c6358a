-- The order of pairs.
use Rattle.std.proofs.Common.{◌≡◌, suc, ◌<◌, ◌≤◌, ◌≢◌, ◌⊎◌, inl, inr, Bool, true, false, true≢false, eqb, leb, ltb, ◌&&◌, ◌||◌, refl, sym, ap, ◌∙◌, arith}
use Rattle.std.proofs.lemmas.Bool.Decides.{leb_tells, eqb_tells}
use Rattle.kinds.specs.declared.pairs.pair.Pair.{Pair}
use Rattle.kinds.specs.PairSets.{is_before, is_same}

-- what it says of the numbers that a pair is before another one, and that it is not
pub record Less (p q : Pair) : Type 0 where
  pub first : p.first ≤ q.first
  pub second : q.first ≤ p.first → p.second < q.second

pub record NotLess (p q : Pair) : Type 0 where
  pub first : q.first ≤ p.first
  pub second : p.first ≤ q.first → q.second ≤ p.second

tells : (p q : Pair) → ((is_before p q ≡ true) × Less p q) ⊎ ((is_before p q ≡ false) × NotLess p q)
tells p q = by (leb_tells (suc p.first) q.first) (eqb_tells p.first q.first) (leb_tells (suc p.second) q.second)
  where
    by : ((leb (suc p.first) q.first ≡ true) × (suc p.first ≤ q.first)) ⊎ ((leb (suc p.first) q.first ≡ false) × (q.first < suc p.first))
        → ((eqb p.first q.first ≡ true) × (p.first ≡ q.first)) ⊎ ((eqb p.first q.first ≡ false) × (p.first ≢ q.first))
        → ((leb (suc p.second) q.second ≡ true) × (suc p.second ≤ q.second)) ⊎ ((leb (suc p.second) q.second ≡ false) × (q.second < suc p.second))
        → ((is_before p q ≡ true) × Less p q) ⊎ ((is_before p q ≡ false) × NotLess p q)
    by (inl a) b c = inl ((λ i. a.0 i || (eqb p.first q.first && ltb p.second q.second)), record { first = omega arith; second = λ h. omega arith })
    by (inr a) (inl b) (inl c) = inl ((λ i. a.0 i || (b.0 i && c.0 i)), record { first = omega arith; second = λ h. omega arith })
    by (inr a) (inl b) (inr c) = inr ((λ i. a.0 i || (b.0 i && c.0 i)), record { first = omega arith; second = λ h. omega arith })
    by (inr a) (inr b) c = inr ((λ i. a.0 i || (b.0 i && ltb p.second q.second)), record { first = omega arith; second = λ h. absurd (b.1 (omega arith)) })

pub less : (p q : Pair) → is_before p q ≡ true → Less p q
less p q h = elim (tells p q) [ inl t ↦ t.1 | inr t ↦ absurd (true≢false (sym h ∙ t.0)) ]

pub not_less : (p q : Pair) → is_before p q ≡ false → NotLess p q
not_less p q h = elim (tells p q) [ inl t ↦ absurd (true≢false (sym t.0 ∙ h)) | inr t ↦ t.1 ]

is_before-true : (p q : Pair) → Less p q → is_before p q ≡ true
is_before-true p q h = elim (tells p q) [ inl t ↦ t.0 | inr t ↦ let n : NotLess p q = t.1 in absurd (apart h n) ]
  where
    apart : Less p q → NotLess p q → ⊥
    apart l n = omega (arith, l.second n.first, n.second l.first)

is_before-false : (p q : Pair) → NotLess p q → is_before p q ≡ false
is_before-false p q h = elim (tells p q) [ inl t ↦ absurd (apart t.1 h) | inr t ↦ t.0 ]
  where
    apart : Less p q → NotLess p q → ⊥
    apart l n = omega (arith, l.second n.first, n.second l.first)

-- a pair before another one, which no third is before, is before the third
pub before_later : (p q r : Pair) → is_before p q ≡ true → is_before r q ≡ false → is_before p r ≡ true
before_later p q r h k =
    let a : Less p q = less p q h in
    let b : NotLess r q = not_less r q k in
    is_before-true p r (record { first = omega arith; second = λ e. omega (arith, a.second (omega arith), b.second (omega arith)) })

pub not_after : (p q : Pair) → is_before p q ≡ true → is_before q p ≡ false
not_after p q h =
    let a : Less p q = less p q h in
    is_before-false q p (record { first = omega arith; second = λ e. omega (arith, a.second e) })

pub not_itself : (p : Pair) → is_before p p ≡ false
not_itself p = is_before-false p p (record { first = omega arith; second = λ e. omega arith })

pub before_trans : (p q r : Pair) → is_before p q ≡ true → is_before q r ≡ true → is_before p r ≡ true
before_trans p q r h k = before_later p q r h (not_after q r k)

-- one of two pairs is before the other one, or they are the same
pub same_pair : (p q : Pair) → is_same p q ≡ true → p ≡ q
same_pair p q h = by (eqb_tells p.first q.first) (eqb_tells p.second q.second)
  where
    by : ((eqb p.first q.first ≡ true) × (p.first ≡ q.first)) ⊎ ((eqb p.first q.first ≡ false) × (p.first ≢ q.first))
        → ((eqb p.second q.second ≡ true) × (p.second ≡ q.second)) ⊎ ((eqb p.second q.second ≡ false) × (p.second ≢ q.second))
        → p ≡ q
    by (inl a) (inl b) = λ i. record { first = a.1 i; second = b.1 i }
    by (inl a) (inr b) = absurd (true≢false (sym h ∙ (λ i. a.0 i && b.0 i)))
    by (inr a) b = absurd (true≢false (sym h ∙ (λ i. a.0 i && eqb p.second q.second)))

pub is_same-false : (p q : Pair) → is_before p q ≡ true → is_same p q ≡ false
is_same-false p q h = by (is_same p q) refl
  where
    by : (b : Bool) → is_same p q ≡ b → is_same p q ≡ false
    by false e = e
    by true e = absurd (true≢false (sym h ∙ ap (λ x. is_before x q) (same_pair p q e) ∙ not_itself q))

pub is_same-later : (p q : Pair) → is_before p q ≡ true → is_same q p ≡ false
is_same-later p q h = by (is_same q p) refl
  where
    by : (b : Bool) → is_same q p ≡ b → is_same q p ≡ false
    by false e = e
    by true e = absurd (true≢false (sym h ∙ ap (is_before p) (same_pair q p e) ∙ not_itself p))

pub is_same-true : (p q : Pair) → is_before p q ≡ false → is_before q p ≡ false → is_same p q ≡ true
is_same-true p q h k =
    let a : NotLess p q = not_less p q h in
    let b : NotLess q p = not_less q p k in
    by (eqb_tells p.first q.first) (eqb_tells p.second q.second) (omega arith) (omega arith)
  where
    by : ((eqb p.first q.first ≡ true) × (p.first ≡ q.first)) ⊎ ((eqb p.first q.first ≡ false) × (p.first ≢ q.first))
        → ((eqb p.second q.second ≡ true) × (p.second ≡ q.second)) ⊎ ((eqb p.second q.second ≡ false) × (p.second ≢ q.second))
        → p.first ≡ q.first → p.second ≡ q.second → is_same p q ≡ true
    by (inl a) (inl b) e f = λ i. a.0 i && b.0 i
    by (inl a) (inr b) e f = absurd (b.1 f)
    by (inr a) b e f = absurd (a.1 e)
