-- Path order, where values are made by paths and values.
use Rattle.std.proofs.Common.{◌≡◌, ◌&&◌, List, [], ◌∷◌, map, refl, sym, ap, ◌∙◌}
use Rattle.std.specs.Ordering.{is_lt}
use Rattle.std.specs.FinMap.{is_sorted}
use Rattle.std.specs.FinMap.Entries.{below_all}
use Rattle.acl_names.specs.Paths.{path_cmp, PathOf}
use Rattle.path_map.specs.Entries.{IsInOrder}

module _ {A B : Type 0} (g : PathOf × A → B) where
  below-values : (x : PathOf) (es : List (PathOf × A)) → below_all path_cmp x (map (λ e. (e.0, g e)) es) ≡ below_all path_cmp x es
  below-values x [] = refl
  below-values x (e ∷ es) = ap (λ b. is_lt (path_cmp x e.0) && b) (below-values x es)

  sorted-values : (es : List (PathOf × A)) → is_sorted path_cmp (map (λ e. (e.0, g e)) es) ≡ is_sorted path_cmp es
  sorted-values [] = refl
  sorted-values (e ∷ es) = λ i. below-values e.0 es i && sorted-values es i

  pub in_order-values : (es : List (PathOf × A)) → IsInOrder es → IsInOrder (map (λ e. (e.0, g e)) es)
  in_order-values es h = sorted-values es ∙ h

  pub in_order-back : (es : List (PathOf × A)) → IsInOrder (map (λ e. (e.0, g e)) es) → IsInOrder es
  in_order-back es h = sym (sorted-values es) ∙ h

-- ---- path order is a matter of the paths alone

module _ {A : Type 0} where
  below-paths : (x : PathOf) (es : List (PathOf × A)) → below_all path_cmp x (map (λ (p : PathOf). (p, p)) (map (λ e. e.0) es)) ≡ below_all path_cmp x es
  below-paths x [] = refl
  below-paths x (e ∷ es) = ap (λ b. is_lt (path_cmp x e.0) && b) (below-paths x es)

  sorted-paths : (es : List (PathOf × A)) → is_sorted path_cmp (map (λ (p : PathOf). (p, p)) (map (λ e. e.0) es)) ≡ is_sorted path_cmp es
  sorted-paths [] = refl
  sorted-paths (e ∷ es) = λ i. below-paths e.0 es i && sorted-paths es i

pub same_order : {A B : Type 0} (es : List (PathOf × A)) (fs : List (PathOf × B)) → map (λ e. e.0) es ≡ map (λ e. e.0) fs → IsInOrder fs → IsInOrder es
same_order es fs e h = sym (sorted-paths es) ∙ ap (λ (ps : List PathOf). is_sorted path_cmp (map (λ (p : PathOf). (p, p)) ps)) e ∙ sorted-paths fs ∙ h
