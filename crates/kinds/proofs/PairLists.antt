-- Pairs that rise, and bounds of pairs.
use Rattle.std.proofs.Common.{◌≡◌, ◌||◌, ◌&&◌, Bool, true, false, true≢false, cond, List, [], ◌∷◌, ◌++◌, filter, refl, sym, ap, subst, ◌∙◌}
use Rattle.std.specs.List.{AllByRecursion}
use Rattle.kinds.specs.declared.pairs.pair.Pair.{Pair}
use Rattle.kinds.specs.PairSets.{is_before, is_same, AreAfter, AreRising, has}
use Rattle.kinds.specs.PairParts.{AreBefore, AreFrom}
use Rattle.kinds.proofs.PairOrder.{before_later, not_after, not_itself, same_pair}

module _ {A : Type 0} (P : A → Type 0) where
  pub all_join : (xs ys : List A) → AllByRecursion P xs → AllByRecursion P ys → AllByRecursion P (xs ++ ys)
  all_join [] ys h k = k
  all_join (x ∷ xs) ys h k = (h.0, all_join xs ys h.1 k)

  pub all_left : (xs ys : List A) → AllByRecursion P (xs ++ ys) → AllByRecursion P xs
  all_left [] ys h = tt
  all_left (x ∷ xs) ys h = (h.0, all_left xs ys h.1)

  pub all_right : (xs ys : List A) → AllByRecursion P (xs ++ ys) → AllByRecursion P ys
  all_right [] ys h = h
  all_right (x ∷ xs) ys h = all_right xs ys h.1

  pub all_filter : (t : A → Bool) (xs : List A) → AllByRecursion P xs → AllByRecursion P (filter t xs)
  all_filter t [] h = tt
  all_filter t (x ∷ xs) h = by (t x) (all_filter t xs h.1)
    where
      by : (b : Bool) → AllByRecursion P (filter t xs) → AllByRecursion P (cond b (x ∷ filter t xs) (filter t xs))
      by true rest = (h.0, rest)
      by false rest = rest

  pub all_weaker : (Q : A → Type 0) → ((x : A) → P x → Q x) → (xs : List A) → AllByRecursion P xs → AllByRecursion Q xs
  all_weaker Q f [] h = tt
  all_weaker Q f (x ∷ xs) h = (f x h.0, all_weaker Q f xs h.1)

module _ {A : Type 0} (t : A → Bool) where
  pub all_pass : (xs : List A) → AllByRecursion (λ x. t x ≡ true) (filter t xs)
  all_pass [] = tt
  all_pass (x ∷ xs) = by (t x) refl (all_pass xs)
    where
      by : (b : Bool) → t x ≡ b → AllByRecursion (λ y. t y ≡ true) (filter t xs) → AllByRecursion (λ y. t y ≡ true) (cond b (x ∷ filter t xs) (filter t xs))
      by true e rest = (e, rest)
      by false e rest = rest

  pub filter_all : (xs : List A) → AllByRecursion (λ x. t x ≡ true) xs → filter t xs ≡ xs
  filter_all [] h = refl
  filter_all (x ∷ xs) h = λ i. cond (h.0 i) (x ∷ filter_all xs h.1 i) (filter_all xs h.1 i)

  pub filter_none : (xs : List A) → AllByRecursion (λ x. t x ≡ false) xs → filter t xs ≡ []
  filter_none [] h = refl
  filter_none (x ∷ xs) h = λ i. cond (h.0 i) (x ∷ filter_none xs h.1 i) (filter_none xs h.1 i)

-- bounds
pub after_before : (p q : Pair) (xs : List Pair) → is_before p q ≡ true → AreFrom q xs → AreAfter p xs
after_before p q xs lt h = all_weaker (λ x. is_before x q ≡ false) (λ x. is_before p x ≡ true) (λ x k. before_later p q x lt k) xs h

pub before_after : (p q : Pair) (xs : List Pair) → AreBefore p xs → is_before q p ≡ false → AreBefore q xs
before_after p q xs h le = all_weaker (λ x. is_before x p ≡ true) (λ x. is_before x q ≡ true) (λ x k. before_later x p q k le) xs h

pub from_after : (p : Pair) (xs : List Pair) → AreAfter p xs → AreFrom p xs
from_after p xs h = all_weaker (λ x. is_before p x ≡ true) (λ x. is_before x p ≡ false) (λ x k. not_after p x k) xs h

-- what is before and after a pair among pairs on one side of it
pub earlier_all : (p : Pair) (xs : List Pair) → AreBefore p xs → filter (λ x. is_before x p) xs ≡ xs
earlier_all p xs h = filter_all (λ x. is_before x p) xs h

pub later_none : (p : Pair) (xs : List Pair) → AreBefore p xs → filter (λ x. is_before p x) xs ≡ []
later_none p xs h = filter_none (λ x. is_before p x) xs (all_weaker (λ x. is_before x p ≡ true) (λ x. is_before p x ≡ false) (λ x k. not_after x p k) xs h)

pub later_all : (p : Pair) (xs : List Pair) → AreAfter p xs → filter (λ x. is_before p x) xs ≡ xs
later_all p xs h = filter_all (λ x. is_before p x) xs h

pub earlier_none : (p : Pair) (xs : List Pair) → AreFrom p xs → filter (λ x. is_before x p) xs ≡ []
earlier_none p xs h = filter_none (λ x. is_before x p) xs h

-- pairs that rise
pub rising_filter : (t : Pair → Bool) (xs : List Pair) → AreRising xs → AreRising (filter t xs)
rising_filter t [] h = tt
rising_filter t (x ∷ xs) h = by (t x) (rising_filter t xs h.1)
  where
    by : (b : Bool) → AreRising (filter t xs) → AreRising (cond b (x ∷ filter t xs) (filter t xs))
    by true rest = (all_filter (λ y. is_before x y ≡ true) t xs h.0, rest)
    by false rest = rest

pub rising_join : (p : Pair) (xs ys : List Pair) → AreBefore p xs → AreFrom p ys → AreRising xs → AreRising ys → AreRising (xs ++ ys)
rising_join p [] ys b f h k = k
rising_join p (x ∷ xs) ys b f h k =
    (all_join (λ y. is_before x y ≡ true) xs ys h.0 (after_before x p ys b.0 f), rising_join p xs ys b.1 f h.1 k)

pub rising_left : (xs ys : List Pair) → AreRising (xs ++ ys) → AreRising xs
rising_left [] ys h = tt
rising_left (x ∷ xs) ys h = (all_left (λ y. is_before x y ≡ true) xs ys h.0, rising_left xs ys h.1)

pub rising_right : (xs ys : List Pair) → AreRising (xs ++ ys) → AreRising ys
rising_right [] ys h = h
rising_right (x ∷ xs) ys h = rising_right xs ys h.1

-- the first pair of the second half
pub before_first : (xs ys rest : List Pair) (p : Pair) → AreRising (xs ++ ys) → ys ≡ p ∷ rest → AreBefore p xs
before_first [] ys rest p h is = tt
before_first (x ∷ xs) ys rest p h is =
    let after : AreAfter x (p ∷ rest) = subst (AreAfter x) is (all_right (λ y. is_before x y ≡ true) xs ys h.0) in
    (after.0, before_first xs ys rest p h.1 is)

pub from_first : (ys rest : List Pair) (p : Pair) → AreRising ys → ys ≡ p ∷ rest → AreFrom p ys
from_first ys rest p h is =
    let rising : AreRising (p ∷ rest) = subst AreRising is h in
    subst (AreFrom p) (sym is) (not_itself p, from_after p rest rising.0)

-- membership
pub or_false : (b : Bool) → (b || false) ≡ b
or_false true = refl
or_false false = refl

pub has_join : (p : Pair) (xs ys : List Pair) → has p (xs ++ ys) ≡ (has p xs || has p ys)
has_join p [] ys = refl
has_join p (x ∷ xs) ys = by (is_same x p) (has_join p xs ys)
  where
    by : (b : Bool) → has p (xs ++ ys) ≡ (has p xs || has p ys) → (b || has p (xs ++ ys)) ≡ ((b || has p xs) || has p ys)
    by true rest = refl
    by false rest = rest

-- a pair is among those that pass a test
pub has_filter : (t : Pair → Bool) (p : Pair) (xs : List Pair) → has p (filter t xs) ≡ (t p && has p xs)
has_filter t p [] = by (t p)
  where
    by : (b : Bool) → false ≡ (b && false)
    by true = refl
    by false = refl
has_filter t p (x ∷ xs) = by (t x) refl (is_same x p) refl (t p) refl (has_filter t p xs)
  where
    by : (a : Bool) → t x ≡ a → (b : Bool) → is_same x p ≡ b → (d : Bool) → t p ≡ d
        → has p (filter t xs) ≡ (d && has p xs)
        → has p (cond a (x ∷ filter t xs) (filter t xs)) ≡ (d && (b || has p xs))
    by true e true f true g h = λ i. f i || has p (filter t xs)
    by true e true f false g h = absurd (true≢false (sym e ∙ ap t (same_pair x p f) ∙ g))
    by true e false f true g h = λ i. f i || h i
    by true e false f false g h = λ i. f i || h i
    by false e true f true g h = absurd (true≢false (sym g ∙ ap t (sym (same_pair x p f)) ∙ e))
    by false e true f false g h = h
    by false e false f true g h = h
    by false e false f false g h = h
