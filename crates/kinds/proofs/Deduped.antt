-- Lists of which each item is kept once: they pass a test as before.
use Rattle.std.proofs.Common.{◌≡◌, ◌||◌, Bool, true, false, cond, List, [], ◌∷◌, refl, sym, ap, ◌∙◌}
use Rattle.std.specs.List.{dedup, dedup_from, list_any}

module _ {A : Type 0} (same : A → A → Bool) (exact : (x y : A) → same x y ≡ true → x ≡ y) (t : A → Bool) where
  any-dedup_from : (y : A) (xs : List A) → list_any t (dedup_from same y xs) ≡ (t y || list_any t xs)
  any-dedup_from y [] = refl
  any-dedup_from y (x ∷ xs) = by (same x y) refl (any-dedup_from y xs) (any-dedup_from x xs)
    where
      twice : (a b : Bool) → (a || b) ≡ (a || (a || b))
      twice true b = refl
      twice false b = refl

      by : (d : Bool) → same x y ≡ d → list_any t (dedup_from same y xs) ≡ (t y || list_any t xs) → list_any t (dedup_from same x xs) ≡ (t x || list_any t xs)
          → list_any t (cond d (dedup_from same y xs) (y ∷ dedup_from same x xs)) ≡ (t y || (t x || list_any t xs))
      by true e last next = last ∙ twice (t y) (list_any t xs) ∙ ap (λ z. t y || (t z || list_any t xs)) (sym (exact x y e))
      by false e last next = ap (λ b. t y || b) next

  pub any-dedup : (xs : List A) → list_any t (dedup same xs) ≡ list_any t xs
  any-dedup [] = refl
  any-dedup (x ∷ xs) = any-dedup_from x xs
