-- Numbers of classes that are found in turn.
use Rattle.std.proofs.Common.{◌≡◌, ◌<◌, ◌+◌, ℕ, Bool, true, false, not, ◌||◌, ◌&&◌, cond, List, [], ◌∷◌, ◌++◌, length, take, get_or, is_some, nat_lt, Some}
use Rattle.std.proofs.Common.{None, refl, sym, ap, ◌∙◌, arith, ltb-true, ltb-false}
use Rattle.std.proofs.Math.Dec.{eqb→eq, eqb_refl}
use Rattle.std.specs.Prelude.{◌==◌, if◌then◌else◌}
use Rattle.std.specs.List.{AllByRecursion}
use Rattle.std.proofs.lemmas.List.{take_more}
use Rattle.std.proofs.lemmas.List.Folds.{list_any-append}
use Rattle.acl_names.proofs.Basics.{to_T, from_T, all_end}
use Rattle.kinds.specs.Given.{used_at}
use Rattle.kinds.specs.Kinds.{node_at, count_at}
use Rattle.path_classes.specs.declared.path_class.PathClass.{PathClass}
use Rattle.path_classes.specs.FoundClasses.{is_searched}
use Rattle.path_classes.specs.PathClasses.{ClassKinds}
use Rattle.path_classes.specs.Renewing.{is_one}
use Rattle.path_classes.proofs.ClassTags.{used_is}
use Rattle.path_classes.proofs.Renewals.{not_both}

or_none : (b : Bool) → (b || false) ≡ b
or_none true = refl
or_none false = refl

-- ---- one number more

-- a number among some and one more
one_or_last : (n m : ℕ) (ns : List ℕ) → is_one n (ns ++ m ∷ []) ≡ (is_one n ns || (m == n))
one_or_last n m ns = list_any-append (λ i. i == n) ns (m ∷ []) ∙ ap (λ b. is_one n ns || b) (or_none (m == n))

last_one : (n : ℕ) (ns : List ℕ) → is_one n (ns ++ n ∷ []) ≡ true
last_one n ns = one_or_last n n ns ∙ ap (λ b. is_one n ns || b) (from_T (n == n) (eqb_refl n)) ∙ or_true (is_one n ns)
  where
    or_true : (b : Bool) → (b || true) ≡ true
    or_true true = refl
    or_true false = refl

one_more : (n m : ℕ) (ns : List ℕ) → is_one n ns ≡ true → is_one n (ns ++ m ∷ []) ≡ true
one_more n m ns h = one_or_last n m ns ∙ ap (λ b. b || (m == n)) h

-- ---- classes that keep who can search

module _ (k : ClassKinds) where
  abbrev pub AllBefore : ℕ → List ℕ → Type 0
  AllBefore end ns = (n : ℕ) (c : PathClass) → n < end → 0 < count_at k n → node_at k n ≡ Some c → is_some c.search ≡ true → is_one n ns ≡ true

  abbrev pub Used : List ℕ → Type 0
  Used ns = AllByRecursion (λ n. 0 < count_at k n) ns

  searched_is : (n : ℕ) (c : PathClass) → 0 < count_at k n → node_at k n ≡ Some c → is_some c.search ≡ true → is_searched (used_at k n) ≡ true
  searched_is n c used is some = ap is_searched (used_is k n c used is) ∙ some

  before_more : (P : Type 0) (n end : ℕ) → n < end + 1 → (n < end → P) → (n ≡ end → P) → P
  before_more P n end lt f g = by (nat_lt n end) refl
    where
      by : (b : Bool) → nat_lt n end ≡ b → P
      by true less = f (ltb-true n end less)
      by false apart = let le = ltb-false n end apart in g (omega (arith, lt, le))

  pub before_skipped : (end : ℕ) (ns : List ℕ) → is_searched (used_at k end) ≡ false → AllBefore end ns → AllBefore (end + 1) ns
  before_skipped end ns out all n c lt used is some =
      before_more (is_one n ns ≡ true) n end lt (λ less. all n c less used is some)
      (λ same. absurd (not_both (is_searched (used_at k n)) (searched_is n c used is some) (ap (λ m. is_searched (used_at k m)) same ∙ out)))

  pub before_pushed : (end : ℕ) (ns : List ℕ) → AllBefore end ns → AllBefore (end + 1) (ns ++ end ∷ [])
  before_pushed end ns all n c lt used is some =
      before_more (is_one n (ns ++ end ∷ []) ≡ true) n end lt (λ less. one_more n end ns (all n c less used is some))
      (λ same. ap (λ m. is_one m (ns ++ end ∷ [])) same ∙ last_one end ns)

  pub used_pushed : (end : ℕ) (ns : List ℕ) → is_searched (used_at k end) ≡ true → Used ns → Used (ns ++ end ∷ [])
  used_pushed end ns one used = all_end (λ n. 0 < count_at k n) ns end used (by (nat_lt 0 (count_at k end)) refl one)
    where
      by : (b : Bool) → nat_lt 0 (count_at k end) ≡ b → is_searched (if b then node_at k end else None) ≡ true → 0 < count_at k end
      by true lt h = ltb-true 0 (count_at k end) lt
      by false lt h = cc

-- ---- numbers that fail a test

fails_more : (p q e x n : Bool) → q ≡ (p && not n) → (e ≡ true → n ≡ x) → cond x q (q || (e || false)) ≡ ((p || (e || false)) && not n)
fails_more p q true true true h same = h ∙ by p
  where
    by : (p : Bool) → (p && false) ≡ ((p || true) && false)
    by true = refl
    by false = refl
fails_more p q true true false h same = let no : false ≡ true = same refl in cc
fails_more p q true false true h same = let no : true ≡ false = same refl in cc
fails_more p q true false false h same = by p q
  where
    by : (p q : Bool) → (q || true) ≡ ((p || true) && true)
    by true true = refl
    by true false = refl
    by false true = refl
    by false false = refl
fails_more p q false true n h same = h ∙ ap (λ b. b && not n) (sym (or_none p))
fails_more p q false false n h same = or_none q ∙ h ∙ ap (λ b. b && not n) (sym (or_none p))

-- those of the first of some numbers, and of one more
pub left_more : (f : ℕ → Bool) (ns : List ℕ) (i d n : ℕ) (left new : List ℕ) → i < length ns → is_one n left ≡ (is_one n (take i ns) && not (f n))
    → new ≡ (if f (get_or ns i d) then left else left ++ get_or ns i d ∷ []) → is_one n new ≡ (is_one n (take (i + 1) ns) && not (f n))
left_more f ns i d n left new lt h is =
    let x : ℕ = get_or ns i d in
    ap (is_one n) is
    ∙ by (f x)
    ∙ fails_more (is_one n (take i ns)) (is_one n left) (x == n) (f x) (f n) h (λ same. ap f (sym (eqb→eq x n (to_T (x == n) same))))
    ∙ ap (λ b. b && not (f n)) (sym (ap (is_one n) (take_more ns i d lt) ∙ list_any-append (λ m. m == n) (take i ns) (x ∷ [])))
  where
    by : (b : Bool) → is_one n (if b then left else left ++ get_or ns i d ∷ []) ≡ cond b (is_one n left) (is_one n left || ((get_or ns i d == n) || false))
    by true = refl
    by false = list_any-append (λ m. m == n) left (get_or ns i d ∷ [])
