-- Ordered maps from paths.
use Rattle.std.proofs.Common.{◌≡◌, ℕ, zero, suc, ◌+◌, ◌*◌, ◌≤◌, arith, Bool, true, false, cond, List, [], ◌∷◌, map, filter, Option, Some, None, Ordering, Less, Equal, Greater, refl, sym, ap, ◌∙◌}
use Rattle.std.specs.Prelude.{option_map, option_and_then, if◌then◌else◌}
use Rattle.std.specs.Ordering.{is_eq, is_lt}
use Rattle.std.specs.FinMap.{find, is_sorted}
use Rattle.std.specs.FinMap.Entries.{below_all, same_entries}
use Rattle.std.proofs.lemmas.Bool.{and_parts}
use Rattle.acl_names.specs.Paths.{path_cmp, PathOf}
use Rattle.acl_names.proofs.PathOrder.{path_total, exact_paths}
use Rattle.acl_names.proofs.Basics.{is_less, both_true, to_T}
use Rattle.path_map.specs.Entries.{IsInOrder}

-- ---- values by a function

module _ {A B : Type 0} (g : A → B) where
  pub find-values : (p : PathOf) (es : List (PathOf × A)) → find path_cmp p (map (λ e. (e.0, g e.1)) es) ≡ option_map g (find path_cmp p es)
  find-values p [] = refl
  find-values p (e ∷ es) = by (is_eq (path_cmp p e.0)) (find-values p es)
    where
      by : (b : Bool) → find path_cmp p (map (λ x. (x.0, g x.1)) es) ≡ option_map g (find path_cmp p es)
          → cond b (Some (g e.1)) (find path_cmp p (map (λ x. (x.0, g x.1)) es)) ≡ option_map g (cond b (Some e.1) (find path_cmp p es))
      by true rest = refl
      by false rest = rest

-- ---- filters

-- the value of a path, if it passes
abbrev if_passes : {A : Type 0} → (PathOf × A → Bool) → PathOf → Option A → Option A
if_passes test p o = option_and_then (λ a. if test (p, a) then Some a else None) o

module _ {A : Type 0} (test : PathOf × A → Bool) where
  below-filter : (x : PathOf) (es : List (PathOf × A)) → below_all path_cmp x es ≡ true → below_all path_cmp x (filter test es) ≡ true
  below-filter x [] h = refl
  below-filter x (e ∷ es) h =
      let parts = and_parts (is_lt (path_cmp x e.0)) (below_all path_cmp x es) h in
      by (test e) parts.0 (below-filter x es parts.1)
    where
      by : (b : Bool) → is_lt (path_cmp x e.0) ≡ true → below_all path_cmp x (filter test es) ≡ true → below_all path_cmp x (cond b (e ∷ filter test es) (filter test es)) ≡ true
      by true first rest = both_true _ _ first rest
      by false first rest = rest

  pub map_filter : (es : List (PathOf × A)) → IsInOrder es → IsInOrder (filter test es)
  map_filter [] h = refl
  map_filter (e ∷ es) h =
      let parts = and_parts (below_all path_cmp e.0 es) (is_sorted path_cmp es) h in
      by (test e) (below-filter e.0 es parts.0) (map_filter es parts.1)
    where
      by : (b : Bool) → below_all path_cmp e.0 (filter test es) ≡ true → is_sorted path_cmp (filter test es) ≡ true → is_sorted path_cmp (cond b (e ∷ filter test es) (filter test es)) ≡ true
      by true first rest = both_true _ _ first rest
      by false first rest = rest

  none_before : (p : PathOf) (es : List (PathOf × A)) → below_all path_cmp p es ≡ true → find path_cmp p es ≡ None
  none_before p [] h = refl
  none_before p (e ∷ es) h =
      let parts = and_parts (is_lt (path_cmp p e.0)) (below_all path_cmp p es) h in
      ap (λ o. cond (is_eq o) (Some e.1) (find path_cmp p es)) (is_less (path_cmp p e.0) parts.0) ∙ none_before p es parts.1

  -- a path is found among those that pass exactly if it is found, and passes
  pub find-filter : (p : PathOf) (es : List (PathOf × A)) → IsInOrder es → find path_cmp p (filter test es) ≡ if_passes test p (find path_cmp p es)
  find-filter p [] h = refl
  find-filter p (e ∷ es) h =
      let parts = and_parts (below_all path_cmp e.0 es) (is_sorted path_cmp es) h in
      by (path_cmp p e.0) refl parts.0 (find-filter p es parts.1)
    where
      passed : List (PathOf × A)
      passed = filter test es

      other : (o : Ordering) → path_cmp p e.0 ≡ o → is_eq o ≡ false → (b : Bool) → find path_cmp p (cond b (e ∷ passed) passed) ≡ find path_cmp p passed
      other o is apart true = ap (λ x. cond (is_eq x) (Some e.1) (find path_cmp p passed)) is ∙ ap (λ b. cond b (Some e.1) (find path_cmp p passed)) apart
      other o is apart false = refl

      same : path_cmp p e.0 ≡ Equal → find path_cmp p passed ≡ None → (b : Bool) → find path_cmp p (cond b (e ∷ passed) passed) ≡ cond b (Some e.1) None
      same is none true = ap (λ x. cond (is_eq x) (Some e.1) (find path_cmp p passed)) is
      same is none false = none

      by : (o : Ordering) → path_cmp p e.0 ≡ o → below_all path_cmp e.0 es ≡ true → find path_cmp p passed ≡ if_passes test p (find path_cmp p es)
          → find path_cmp p (cond (test e) (e ∷ passed) passed) ≡ if_passes test p (cond (is_eq o) (Some e.1) (find path_cmp p es))
      by Less is after rest = other Less is refl (test e) ∙ rest
      by Greater is after rest = other Greater is refl (test e) ∙ rest
      by Equal is after rest =
          let keys = exact_paths p e.0 is in
          let none = rest ∙ ap (if_passes test p) (ap (λ q. find path_cmp q es) keys ∙ none_before e.0 es after) in
          same is none (test e) ∙ ap (λ q. cond (test (q, e.1)) (Some e.1) None) (sym keys)

-- ---- maps with the same look-ups are the same

pub same_found : {B : Type 0} (es fs : List (PathOf × B)) → IsInOrder es → IsInOrder fs → ((p : PathOf) → find path_cmp p es ≡ find path_cmp p fs) → es ≡ fs
same_found es fs g h is = same_entries path_cmp path_total exact_paths es fs (to_T (is_sorted path_cmp es) g) (to_T (is_sorted path_cmp fs) h) is

-- ---- products

pub one_more : (n u : ℕ) → suc n * u ≡ u + n * u
one_more n u = grind arith

pub times_le : (a b u : ℕ) → a ≤ b → a * u ≤ b * u
times_le zero b u h = omega arith
times_le (suc a) zero u h = absurd (omega arith)
times_le (suc a) (suc b) u h = omega (arith, one_more a u, one_more b u, times_le a b u (omega arith))

-- ---- a list seen as another, seen as a third

pub map_twice : {A B C : Type 0} (f : A → B) (g : B → C) (es : List A) → map g (map f es) ≡ map (λ e. g (f e)) es
map_twice f g [] = refl
map_twice f g (e ∷ es) = ap (λ l. g (f e) ∷ l) (map_twice f g es)
