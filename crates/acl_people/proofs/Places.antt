-- First places in a list.
use Rattle.std.proofs.Common.{◌≡◌, ℕ, zero, suc, ◌+◌, Bool, true, false, cond, List, [], ◌∷◌, ◌++◌, length, map, take, slice_get, position, find, Option, Some}
use Rattle.std.proofs.Common.{None, option_map, option_and_then, if◌then◌else◌, add-one, refl, sym, ap, ◌∙◌, arith}
use Rattle.std.specs.List.{position_from}
use Rattle.std.specs.Option.{option_or}
use Rattle.std.proofs.lemmas.Iterator.Adapters.{position_from-zero}

module _ {X : Type 0} (p : X → Bool) where
  -- the places of a list that begins one place later
  position_from-later : (i : ℕ) (xs : List X) → position_from p (i + 1) xs ≡ option_map (λ k. k + 1) (position_from p i xs)
  position_from-later i [] = refl
  position_from-later i (x ∷ xs) = elim (p x) as (λ b. cond b (Some (i + 1)) (position_from p (i + 1 + 1) xs) ≡ option_map (λ k. k + 1) (cond b (Some i) (position_from p (i + 1) xs))) [
    | true ↦ refl
    | false ↦ position_from-later (i + 1) xs
  ]

  -- the first place, from the front on
  pub position-cons : (x : X) (xs : List X) → position p (x ∷ xs) ≡ cond (p x) (Some 0) (option_map (λ k. k + 1) (position p xs))
  position-cons x xs =
      position_from-zero p (x ∷ xs)
      ∙ ap (λ o. cond (p x) (Some 0) o) (position_from-later 0 xs ∙ ap (λ o. option_map (λ k. k + 1) o) (sym (position_from-zero p xs)))

  -- the first element that passes is at the first place
  pub find-position : (xs : List X) → find p xs ≡ option_and_then (λ i. slice_get xs i) (position p xs)
  find-position [] = refl
  find-position (x ∷ xs) =
      rw (position-cons x xs) (elim (p x) as (λ b. cond b (Some x) (find p xs) ≡ option_and_then (λ i. slice_get (x ∷ xs) i) (cond b (Some 0) (option_map (λ k. k + 1) (position p xs)))) [
        | true ↦ refl
        | false ↦ find-position xs ∙ at (position p xs)
      ])
    where
      at : (o : Option ℕ) → option_and_then (λ i. slice_get xs i) o ≡ option_and_then (λ i. slice_get (x ∷ xs) i) (option_map (λ k. k + 1) o)
      at None = refl
      at (Some i) = rw add-one refl

  -- one more element, at the end
  pub position-push : (xs : List X) (y : X) → position p (xs ++ y ∷ []) ≡ option_or (position p xs) (if p y then Some (length xs) else None)
  position-push [] y = position-cons y []
  position-push (x ∷ xs) y = rw (position-cons x (xs ++ y ∷ []), position-cons x xs, position-push xs y)
      (elim (p x) as (λ b. cond b (Some 0) (option_map (λ k. k + 1) (option_or (position p xs) (if p y then Some (length xs) else None)))
      ≡ option_or (cond b (Some 0) (option_map (λ k. k + 1) (position p xs))) (if p y then Some (length (x ∷ xs)) else None)) [
        | true ↦ refl
        | false ↦ later (position p xs)
      ])
    where
      last : (b : Bool) → option_map (λ k. k + 1) (if b then Some (length xs) else None) ≡ (if b then Some (length (x ∷ xs)) else None)
      last true = ap (λ n. Some n) (omega arith)
      last false = refl

      later : (o : Option ℕ) → option_map (λ k. k + 1) (option_or o (if p y then Some (length xs) else None)) ≡ option_or (option_map (λ k. k + 1) o) (if p y then Some (length (x ∷ xs)) else None)
      later None = last (p y)
      later (Some i) = refl

-- the first place by what the elements are seen as
pub position-map : {X Y : Type 0} (p : Y → Bool) (f : X → Y) (xs : List X) → position p (map f xs) ≡ position (λ x. p (f x)) xs
position-map p f [] = refl
position-map p f (x ∷ xs) =
    position-cons p (f x) (map f xs)
    ∙ ap (λ o. cond (p (f x)) (Some 0) (option_map (λ k. k + 1) o)) (position-map p f xs)
    ∙ sym (position-cons (λ z. p (f z)) x xs)

less_one : (o : Option ℕ) (i : ℕ) → option_map (λ k. k + 1) o ≡ Some (suc i) → o ≡ Some i
less_one None i e = cc
less_one (Some k) i e = let same : Some (k + 1) ≡ Some (suc i) = e in ap (λ n. Some n) (omega (arith, inner (k + 1) (suc i) same))
  where
    inner : (a b : ℕ) → Some a ≡ Some b → a ≡ b
    inner a b h = cc

-- nothing before the first place passes
pub position-before : {X : Type 0} (p : X → Bool) (i : ℕ) (xs : List X) → position p xs ≡ Some i → position p (take i xs) ≡ None
position-before p zero xs e = refl
position-before p (suc i) [] e = refl
position-before p (suc i) (x ∷ xs) e = by (p x) refl (λ h. position-before p i xs h)
  where
    one : (b : Bool) → p x ≡ b → cond b (Some 0) (option_map (λ k. k + 1) (position p xs)) ≡ Some (suc i)
    one b is = ap (λ b. cond b (Some 0) (option_map (λ k. k + 1) (position p xs))) (sym is) ∙ sym (position-cons p x xs) ∙ e

    zero_is_not : Some 0 ≡ Some (suc i) → ⊥
    zero_is_not h = cc

    by : (b : Bool) → p x ≡ b → (position p xs ≡ Some i → position p (take i xs) ≡ None) → position p (x ∷ take i xs) ≡ None
    by true is more = absurd (zero_is_not (one true is))
    by false is more = position-cons p x (take i xs) ∙ ap (λ b. cond b (Some 0) (option_map (λ k. k + 1) (position p (take i xs)))) is
        ∙ ap (λ o. option_map (λ k. k + 1) o) (more (less_one _ i (one false is)))
