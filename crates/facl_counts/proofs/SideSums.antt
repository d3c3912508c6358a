-- What all pairs of sides give together, of files that each have one.
use Rattle.std.proofs.Common.{◌≡◌, ℕ, zero, suc, ◌+◌, ◌<◌, ◌≤◌, Bool, true, false, cond, List, [], ◌∷◌, ◌++◌, filter, length, Option, Some, None, refl, sym, ap, ◌∙◌, ⊎_elim, arith}
use Rattle.std.specs.Prelude.{◌&&◌}
use Rattle.std.proofs.lemmas.Bool.{cases_eq, eq-eqb, ne_eqb}
use Rattle.facl_counts.specs.GainsLaws.{sum_up_to, sum_by_sides}
use Rattle.facl_counts.specs.GainsText.{is_same, is_same_side, side_of, number_of_sides, lines_up_to, lines_by_sides}
use Rattle.facl_answers.specs.BothStates.{Sides}

-- ---- a sum over numbers

pub sum_more : (f : ℕ → ℕ) (n : ℕ) → sum_up_to f (suc n) ≡ sum_up_to f n + f n
unfolding sum_up_to
sum_more f n = refl

pub sum_start : (f : ℕ → ℕ) → sum_up_to f 0 ≡ 0
unfolding sum_up_to
sum_start f = refl

pub sum_same : (f g : ℕ → ℕ) (n : ℕ) → ((k : ℕ) → f k ≡ g k) → sum_up_to f n ≡ sum_up_to g n
sum_same f g zero same = sum_start f ∙ sym (sum_start g)
sum_same f g (suc n) same = sum_more f n ∙ (λ i. sum_same f g n same i + same n i) ∙ sym (sum_more g n)

sum_none : (f : ℕ → ℕ) (n : ℕ) → ((k : ℕ) → f k ≡ 0) → sum_up_to f n ≡ 0
sum_none f zero none = sum_start f
sum_none f (suc n) none = let more = sum_none f n none in let here = none n in omega (arith, sum_more f n)

sum_both : (f g : ℕ → ℕ) (n : ℕ) → sum_up_to (λ k. f k + g k) n ≡ sum_up_to f n + sum_up_to g n
sum_both f g zero = omega (arith, sum_start f, sum_start g, sum_start (λ k. f k + g k))
sum_both f g (suc n) =
    let more = sum_both f g n in
    omega (arith, sum_more f n, sum_more g n, sum_more (λ k. f k + g k) n)

-- ---- the number of a side

abbrev number_of : Option ℕ → ℕ
number_of None = 0
number_of (Some n) = suc n

abbrev pub is_it : Option ℕ → ℕ → ℕ
is_it side k = cond (is_same_side (side_of k) side) 1 0

it_is : (side : Option ℕ) → is_it side (number_of side) ≡ 1
it_is None = refl
it_is (Some n) = ap (λ b. cond b 1 0) (eq-eqb n n refl)

it_is_not : (side : Option ℕ) (k : ℕ) → (k ≡ number_of side → ⊥) → is_it side k ≡ 0
it_is_not None zero other = absurd (other refl)
it_is_not None (suc k) other = refl
it_is_not (Some n) zero other = refl
it_is_not (Some n) (suc k) other = ap (λ b. cond b 1 0) (ne_eqb k n (λ same. other (ap suc same)))

-- no number below that of the side is it
none_below : (side : Option ℕ) (n : ℕ) → n ≤ number_of side → sum_up_to (is_it side) n ≡ 0
none_below side zero within = sum_start (is_it side)
none_below side (suc n) within =
    let more = none_below side n (omega arith) in
    let here = it_is_not side n (λ same. omega (arith, same)) in
    omega (arith, sum_more (is_it side) n)

one_within : (side : Option ℕ) (n : ℕ) → number_of side < n → sum_up_to (is_it side) n ≡ 1
one_within side zero within = absurd (omega arith)
one_within side (suc n) within = ⊎_elim here (λ other. later other (one_within side n)) (cases_eq n (number_of side))
  where
    here : n ≡ number_of side → sum_up_to (is_it side) (suc n) ≡ 1
    here same =
        let before = none_below side n (omega arith) in
        let is : is_it side n ≡ 1 = ap (is_it side) same ∙ it_is side in
        omega (arith, sum_more (is_it side) n)

    later : (n ≡ number_of side → ⊥) → (number_of side < n → sum_up_to (is_it side) n ≡ 1) → sum_up_to (is_it side) (suc n) ≡ 1
    later other more =
        let below : number_of side < n = omega (arith, other) in
        let before = more below in
        let is = it_is_not side n other in
        omega (arith, sum_more (is_it side) n)

-- what is granted is a byte
abbrev pub IsByte : Option ℕ → Type 0
IsByte None = Unit {0}
IsByte (Some n) = n < 256

within_sides : (side : Option ℕ) → IsByte side → number_of side < number_of_sides
within_sides None byte = omega arith
within_sides (Some n) byte = omega arith

one_of_sides : (side : Option ℕ) → IsByte side → sum_up_to (is_it side) number_of_sides ≡ 1
one_of_sides side byte = one_within side number_of_sides (within_sides side byte)

-- ---- pairs of sides

abbrev pub AreByteSides : Sides → Type 0
AreByteSides sides = IsByte sides.0 × IsByte sides.1

abbrev are_it : Sides → Sides → ℕ
are_it x sides = cond (is_same sides x) 1 0

-- a pair of sides is one of all
pub one_pair : (x : Sides) → AreByteSides x → sum_by_sides (are_it x) ≡ 1
one_pair x bytes = sum_same (λ before. sum_up_to (λ after. are_it x (side_of before, side_of after)) number_of_sides) (is_it x.0) number_of_sides inner ∙ one_of_sides x.0 bytes.0
  where
    inner : (before : ℕ) → sum_up_to (λ after. are_it x (side_of before, side_of after)) number_of_sides ≡ is_it x.0 before
    inner before = by (is_same_side (side_of before) x.0)
      where
        by : (b : Bool) → sum_up_to (λ after. cond (b && is_same_side (side_of after) x.1) 1 0) number_of_sides ≡ cond b 1 0
        by true = one_of_sides x.1 bytes.1
        by false = sum_none (λ after. 0) number_of_sides (λ k. refl)

pub sides_both : (f g : Sides → ℕ) → sum_by_sides (λ sides. f sides + g sides) ≡ sum_by_sides f + sum_by_sides g
sides_both f g =
    sum_same (λ before. sum_up_to (λ after. f (side_of before, side_of after) + g (side_of before, side_of after)) number_of_sides)
    (λ before. sum_up_to (λ after. f (side_of before, side_of after)) number_of_sides + sum_up_to (λ after. g (side_of before, side_of after)) number_of_sides) number_of_sides
    (λ before. sum_both (λ after. f (side_of before, side_of after)) (λ after. g (side_of before, side_of after)) number_of_sides)
    ∙ sum_both (λ before. sum_up_to (λ after. f (side_of before, side_of after)) number_of_sides) (λ before. sum_up_to (λ after. g (side_of before, side_of after)) number_of_sides) number_of_sides

pub sides_same : (f g : Sides → ℕ) → ((sides : Sides) → f sides ≡ g sides) → sum_by_sides f ≡ sum_by_sides g
sides_same f g same =
    sum_same (λ before. sum_up_to (λ after. f (side_of before, side_of after)) number_of_sides) (λ before. sum_up_to (λ after. g (side_of before, side_of after)) number_of_sides) number_of_sides
    (λ before. sum_same (λ after. f (side_of before, side_of after)) (λ after. g (side_of before, side_of after)) number_of_sides (λ after. same (side_of before, side_of after)))

pub sides_none : (f : Sides → ℕ) → ((sides : Sides) → f sides ≡ 0) → sum_by_sides f ≡ 0
sides_none f none =
    sum_none (λ before. sum_up_to (λ after. f (side_of before, side_of after)) number_of_sides) number_of_sides
    (λ before. sum_none (λ after. f (side_of before, side_of after)) number_of_sides (λ after. none (side_of before, side_of after)))

-- ---- files that pass a test, by their sides

module _ {A : Type 0} (passes : A → Bool) (sides_at : A → Sides) where
  abbrev pub passing_with : Sides → List A → List A
  passing_with sides xs = filter (λ x. passes x && is_same sides (sides_at x)) xs

  pub each_once : (xs : List A) → ((x : A) → AreByteSides (sides_at x)) → sum_by_sides (λ sides. length (passing_with sides xs)) ≡ length (filter passes xs)
  each_once [] bytes = sides_none (λ sides. 0) (λ sides. refl)
  each_once (x ∷ xs) bytes = by (passes x) (each_once xs bytes)
    where
      one : (sides : Sides) (b : Bool) → length (cond b (x ∷ passing_with sides xs) (passing_with sides xs)) ≡ cond b 1 0 + length (passing_with sides xs)
      one sides true = omega arith
      one sides false = omega arith

      by : (b : Bool) → sum_by_sides (λ sides. length (passing_with sides xs)) ≡ length (filter passes xs)
          → sum_by_sides (λ sides. length (cond (b && is_same sides (sides_at x)) (x ∷ passing_with sides xs) (passing_with sides xs))) ≡ length (cond b (x ∷ filter passes xs) (filter passes xs))
      by true more =
          sides_same (λ sides. length (cond (is_same sides (sides_at x)) (x ∷ passing_with sides xs) (passing_with sides xs)))
          (λ sides. are_it (sides_at x) sides + length (passing_with sides xs)) (λ sides. one sides (is_same sides (sides_at x)))
          ∙ sides_both (are_it (sides_at x)) (λ sides. length (passing_with sides xs))
          ∙ (λ i. one_pair (sides_at x) (bytes x) i + more i)
          ∙ (let step : 1 + length (filter passes xs) ≡ suc (length (filter passes xs)) = omega arith in step)
      by false more = more

-- ---- lines of numbers

pub no_left : {A : Type 0} (xs ys : List A) → xs ++ ys ≡ [] → xs ≡ []
no_left [] ys h = refl
no_left (x ∷ xs) ys h = absurd (cc h)

pub no_right : {A : Type 0} (xs ys : List A) → xs ++ ys ≡ [] → ys ≡ []
no_right [] ys h = h
no_right (x ∷ xs) ys h = absurd (cc h)

-- where there is no line, and a line is missing only where nothing is counted, nothing is counted
silent : (f : ℕ → List ℕ) (g : ℕ → ℕ) (n : ℕ) → ((k : ℕ) → f k ≡ [] → g k ≡ 0) → lines_up_to f n ≡ [] → sum_up_to g n ≡ 0
unfolding lines_up_to
silent f g zero each h = sum_start g
silent f g (suc n) each h =
    let more = silent f g n each (no_left (lines_up_to f n) (f n) h) in
    let here = each n (no_right (lines_up_to f n) (f n) h) in
    omega (arith, sum_more g n)

pub silent_sides : (f : Sides → List ℕ) (g : Sides → ℕ) → ((sides : Sides) → f sides ≡ [] → g sides ≡ 0) → lines_by_sides f ≡ [] → sum_by_sides g ≡ 0
silent_sides f g each =
    silent (λ before. lines_up_to (λ after. f (side_of before, side_of after)) number_of_sides) (λ before. sum_up_to (λ after. g (side_of before, side_of after)) number_of_sides) number_of_sides
    (λ before. silent (λ after. f (side_of before, side_of after)) (λ after. g (side_of before, side_of after)) number_of_sides (λ after. each (side_of before, side_of after)))
