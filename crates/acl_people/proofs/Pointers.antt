-- Lists of pointers, and what they point to.
use Rattle.std.proofs.Common.{◌≡◌, ℕ, zero, suc, ◌+◌, ◌<◌, List, [], ◌∷◌, ◌++◌, length, map, take, get_or, slice_get, Some, option_map, refl, ap, sym, subst, ◌∙◌}
use Rattle.std.specs.List.{remove}
use Rattle.std.proofs.lemmas.Option.{slice_get-map, slice_get_read}
use Rattle.std.proofs.lemmas.List.{take_more, get_or-map, length-map}

-- clones of pointers point to the same values
-- one value more
pub map_take_more : {A B : Type 0} (f : A → B) (xs : List A) (i : ℕ) (x : A) → i < length xs → x ≡ get_or xs i x → take (i + 1) (map f xs) ≡ take i (map f xs) ++ f x ∷ []
map_take_more f xs i x lt is =
    take_more (map f xs) i (f x) (subst (λ n. i < n) (sym (length-map xs f)) lt)
    ∙ ap (λ y. take i (map f xs) ++ y ∷ []) (get_or-map f xs i x (f x) lt ∙ ap f (sym is))

-- the value at a place
pub value_is : {A B : Type 0} (f : A → B) (xs : List A) (i : ℕ) (x : A) → i < length xs → x ≡ get_or xs i x → f x ≡ get_or (map f xs) i (f x)
value_is f xs i x lt is = ap f is ∙ sym (get_or-map f xs i x (f x) lt)

pub value_at : {A B : Type 0} (f : A → B) (xs : List A) (i : ℕ) (x : A) → i < length xs → x ≡ get_or xs i x → slice_get (map f xs) i ≡ Some (f x)
value_at f xs i x lt is = slice_get-map f xs i ∙ ap (λ o. option_map f o) (slice_get_read xs (length xs) i x refl lt is)

pub map-remove : {A B : Type 0} (f : A → B) (i : ℕ) (xs : List A) → map f (remove xs i) ≡ remove (map f xs) i
map-remove f zero [] = refl
map-remove f (suc i) [] = refl
map-remove f zero (x ∷ xs) = refl
map-remove f (suc i) (x ∷ xs) = ap (λ l. f x ∷ l) (map-remove f i xs)
