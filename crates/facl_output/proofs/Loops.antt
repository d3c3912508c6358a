-- Loops that add what is made of each item of a list, or of each that passes a test.
use Rattle.std.proofs.Common.{◌≡◌, ◌+◌, ◌<◌, ◌≤◌, ℕ, Bool, true, false, cond, List, [], ◌∷◌, ◌++◌, append-nil, length, take, get_or, filter, sym, ap, ◌∙◌}
use Rattle.std.specs.List.{flat_map}
use Rattle.std.proofs.lemmas.List.{take_more, take_all, flat_map_more}
use Rattle.std.proofs.lemmas.List.Elements.{filter-append}

module _ {A B : Type 0} (f : A → List B) (xs : List A) (start : List B) where
  -- one item more
  pub item_added : (i : ℕ) (x d : A) (text new : List B) → i < length xs → x ≡ get_or xs i d → text ≡ start ++ flat_map f (take i xs) → new ≡ text ++ f x
      → new ≡ start ++ flat_map f (take (i + 1) xs)
  item_added i x d text new lt is so_far wrote =
      wrote
      ∙ ap (λ (l : List B). l ++ f x) so_far
      ∙ flat_map_more f start (take i xs) x
      ∙ ap (λ (l : List A). start ++ flat_map f l) (ap (λ (y : A). take i xs ++ y ∷ []) is ∙ sym (take_more xs i d lt))

  -- no item is left
  pub all_added : (i : ℕ) (text : List B) → length xs ≤ i → text ≡ start ++ flat_map f (take i xs) → text ≡ start ++ flat_map f xs
  all_added i text past so_far = so_far ∙ ap (λ (l : List A). start ++ flat_map f l) (take_all i xs past)

  module _ (g : A → Bool) where
    one_more : (i : ℕ) (x d : A) → i < length xs → x ≡ get_or xs i d → filter g (take (i + 1) xs) ≡ filter g (take i xs) ++ cond (g x) (x ∷ []) []
    one_more i x d lt is =
        ap (filter g) (take_more xs i d lt ∙ ap (λ (y : A). take i xs ++ y ∷ []) (sym is))
        ∙ filter-append g (take i xs) (x ∷ [])

    -- one item more, which passes
    pub passed_added : (i : ℕ) (x d : A) (text new : List B) → i < length xs → x ≡ get_or xs i d → g x ≡ true → text ≡ start ++ flat_map f (filter g (take i xs)) → new ≡ text ++ f x
        → new ≡ start ++ flat_map f (filter g (take (i + 1) xs))
    passed_added i x d text new lt is passes so_far wrote =
        wrote
        ∙ ap (λ (l : List B). l ++ f x) so_far
        ∙ flat_map_more f start (filter g (take i xs)) x
        ∙ ap (λ (l : List A). start ++ flat_map f l) (sym (one_more i x d lt is ∙ ap (λ b. filter g (take i xs) ++ cond b (x ∷ []) []) passes))

    -- one item more, which does not
    pub other_left : (i : ℕ) (x d : A) (text new : List B) → i < length xs → x ≡ get_or xs i d → g x ≡ false → text ≡ start ++ flat_map f (filter g (take i xs)) → new ≡ text
        → new ≡ start ++ flat_map f (filter g (take (i + 1) xs))
    other_left i x d text new lt is fails so_far same =
        same
        ∙ so_far
        ∙ ap (λ (l : List A). start ++ flat_map f l)
        (sym (one_more i x d lt is ∙ ap (λ b. filter g (take i xs) ++ cond b (x ∷ []) []) fails ∙ append-nil (filter g (take i xs))))

    -- no item is left
    pub all_passed : (i : ℕ) (text : List B) → length xs ≤ i → text ≡ start ++ flat_map f (filter g (take i xs)) → text ≡ start ++ flat_map f (filter g xs)
    all_passed i text past so_far = so_far ∙ ap (λ (l : List A). start ++ flat_map f (filter g l)) (take_all i xs past)
