-- One more name in a name table, copies of names, and what places give.
use Rattle.std.proofs.Common.{◌≡◌, ℕ, ◌+◌, ◌<◌, Bool, true, false, cond, List, [], ◌∷◌, ◌++◌, length, map, take, get_or, slice_get, position, find}
use Rattle.std.proofs.Common.{Option, Some, None, option_map, option_and_then, Vec, vec_len, Global, refl, sym, ap, ◌∙◌, arith}
use Rattle.std.specs.List.{AllZip}
use Rattle.std.proofs.lemmas.List.{take_at, take_more, map_push, length_push, get_or_push}
use Rattle.std.proofs.lemmas.List.Elements.{same_from_all_zip}
use Rattle.indexmap.specs.IndexMap.{insert_entry}
use Rattle.acl_people.specs.NameTables.{Named, is_name, AreNames}
use Rattle.acl_people.specs.Kept.{named_in}
use Rattle.acl_people.proofs.Places.{position-cons, position-before, find-position}

none_from : (o : Option ℕ) → option_map (λ k. k + 1) o ≡ None → o ≡ None
none_from None e = refl
none_from (Some i) e = cc

some_is_not_none : (i : ℕ) → Some i ≡ None → ⊥
some_is_not_none i e = cc

-- a new name goes last
pub insert-absent : {K V X : Type 0} (eq : K → K → Bool) (p : X → Bool) (f : K × V → X) (k : K) (v : V) → ((e : K × V) → p (f e) ≡ eq k e.0) → (es : List (K × V))
    → position p (map f es) ≡ None → map f (insert_entry eq es k v) ≡ map f es ++ f (k, v) ∷ []
insert-absent eq p f k v agrees [] none = refl
insert-absent {K} {V} eq p f k v agrees (e ∷ es) none =
    by (eq k e.0) refl (λ rest. insert-absent eq p f k v agrees es rest)
  where
    found : cond (eq k e.0) (Some 0) (option_map (λ i. i + 1) (position p (map f es))) ≡ None
    found = ap (λ b. cond b (Some 0) (option_map (λ i. i + 1) (position p (map f es)))) (sym (agrees e)) ∙ sym (position-cons p (f e) (map f es)) ∙ none

    by : (b : Bool) → eq k e.0 ≡ b → (position p (map f es) ≡ None → map f (insert_entry eq es k v) ≡ map f es ++ f (k, v) ∷ [])
        → map f (cond b ((e.0, v) ∷ es) (e ∷ insert_entry eq es k v)) ≡ map f (e ∷ es) ++ f (k, v) ∷ []
    by true is more = absurd (some_is_not_none 0 (sym (ap (λ b. cond b (Some 0) (option_map (λ i. i + 1) (position p (map f es)))) is) ∙ found))
    by false is more =
        let rest = none_from _ (sym (ap (λ b. cond b (Some 0) (option_map (λ i. i + 1) (position p (map f es)))) is) ∙ found) in
        ap (λ xs. f e ∷ xs) (more rest)

-- what the first of a kind is, by its place
pub found_at : {X Y : Type 0} (p : X → Bool) (f : X → Y) (xs : List X) (i : ℕ) (r : Option Y) → Some i ≡ position p xs → r ≡ option_map f (slice_get xs i) → r ≡ option_map f (find p xs)
found_at p f xs i r at is = is ∙ ap (λ o. option_map f (option_and_then (λ k. slice_get xs k) o)) at ∙ ap (λ o. option_map f o) (sym (find-position p xs))

pub not_found : {X Y : Type 0} (p : X → Bool) (f : X → Y) (xs : List X) → None ≡ position p xs → None ≡ option_map f (find p xs)
not_found p f xs at = ap (λ o. option_map f (option_and_then (λ k. slice_get xs k) o)) at ∙ ap (λ o. option_map f o) (sym (find-position p xs))

-- one row more
pub named_more : {R : Type 0} (named : R → Named) (rows : List R) (i : ℕ) (row : R) → i < length rows → row ≡ get_or rows i row
    → map named (take i rows) ++ named row ∷ [] ≡ map named (take (i + 1) rows)
named_more named rows i row lt is = sym (map_push named (take i rows) row) ∙ ap (λ rs. map named rs) (sym (take_more rows i row lt ∙ ap (λ r. take i rows ++ r ∷ []) (sym is)))

-- a name is not among those before it
pub fresh : (es : List Named) (i : ℕ) (e : Named) → AreNames es → i < length es → get_or es i e ≡ e → position (is_name e.0) (take i es) ≡ None
fresh es i e names within at = position-before (is_name e.0) i es (ap (λ y. position (is_name y.0) es) (sym at) ∙ names.once i e within)

pub new_name : (es : List Named) (y : Named) → AreNames (es ++ y ∷ []) → position (is_name y.0) es ≡ None
new_name es y names =
    ap (λ l. position (is_name y.0) l) (sym (take_at es (y ∷ []) (length es) refl))
    ∙ fresh (es ++ y ∷ []) (length es) y names (omega (arith, length_push es y)) (get_or_push es y y (length es) refl)

-- clones of names and ids
pub clones_named : (es fs : List (Vec ℕ Global × ℕ)) → AllZip (λ p q. (AllZip (λ x y. y ≡ x) p.0.items q.0.items × (vec_len q.0 ≡ vec_len p.0)) × (q.1 ≡ p.1)) es fs → named_in fs ≡ named_in es
clones_named [] [] h = refl
clones_named [] (f ∷ fs) h = absurd h
clones_named (e ∷ es) [] h = absurd h
clones_named (e ∷ es) (f ∷ fs) h = λ i. (same_from_all_zip (λ x y. y ≡ x) e.0.items f.0.items h.0.0.0 (λ x y is. is) i, h.0.1 i) ∷ clones_named es fs h.1 i
