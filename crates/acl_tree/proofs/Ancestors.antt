-- The paths of the files that a path is below: the nearest, and those above it.
use Rattle.std.proofs.Common.{◌≡◌, ◌<◌, List, [], ◌∷◌, ◌++◌, length, map, reverse, append-nil, append_assoc, Option, Some, None, refl, sym, ap, subst, ◌∙◌, arith}
use Rattle.std.proofs.lemmas.List.{map-append, reverse-append}
use Rattle.acl_names.specs.Paths.{PathOf}
use Rattle.path_map.specs.Entries.{IsInOrder}
use Rattle.path_map.specs.Below.{nearest_above}
use Rattle.path_map.proofs.AllAbove.{those, nearest_empty, nearest_last}
use Rattle.acl_tree.specs.Walks.{ancestors}

module _ {V : Type 0} where
  -- the paths that are still to come: that of a file that is found, after those of the files above it
  abbrev pub to_come : Option (PathOf × V) → List (PathOf × V) → List PathOf
  to_come None t = []
  to_come (Some e) t = ancestors e.0 t ++ e.0 ∷ []

  -- those of the nearest file above a path are all above the path
  nearest_leads : (p : PathOf) (t : List (PathOf × V)) → IsInOrder t → to_come (nearest_above p t) t ≡ ancestors p t
  nearest_leads p t order = by (nearest_above p t) refl
    where
      by : (u : Option (PathOf × V)) → nearest_above p t ≡ u → to_come (nearest_above p t) t ≡ ancestors p t
      by None is = ap (λ u. to_come u t) is ∙ sym (ap (map (λ (e : PathOf × V). e.0)) (nearest_empty p t is))
      by (Some r) is =
          ap (λ u. to_come u t) is
          ∙ sym (ap (map (λ (e : PathOf × V). e.0)) (nearest_last p t r order is) ∙ map-append (λ (e : PathOf × V). e.0) (those r.0 t) (r ∷ []))

  -- some paths are found, from the nearest on, and the next file
  abbrev pub IsClimbed : PathOf → List (PathOf × V) → Option (PathOf × V) → List PathOf → Type 0
  IsClimbed path t found paths = to_come found t ++ reverse paths ≡ ancestors path t

  pub climb_begins : (path : PathOf) (t : List (PathOf × V)) (found : Option (PathOf × V)) (paths : List PathOf) → IsInOrder t → found ≡ nearest_above path t
      → paths ≡ [] → IsClimbed path t found paths
  climb_begins path t found paths order is none =
      ap (λ l. to_come found t ++ reverse l) none ∙ append-nil (to_come found t) ∙ ap (λ u. to_come u t) is ∙ nearest_leads path t order

  module _ (path : PathOf) (t : List (PathOf × V)) (found next : Option (PathOf × V)) (e : PathOf × V) (order : IsInOrder t) (is : found ≡ Some e) (leads : next ≡ nearest_above e.0 t) where
    here : to_come found t ≡ to_come next t ++ e.0 ∷ []
    here = ap (λ u. to_come u t) is ∙ ap (λ l. l ++ e.0 ∷ []) (sym (ap (λ u. to_come u t) leads ∙ nearest_leads e.0 t order))

    pub climb_more : (paths more : List PathOf) → IsClimbed path t found paths → more ≡ paths ++ e.0 ∷ [] → IsClimbed path t next more
    climb_more paths more climbed pushed =
        ap (λ l. to_come next t ++ reverse l) pushed
        ∙ ap (λ l. to_come next t ++ l) (reverse-append paths (e.0 ∷ []))
        ∙ sym (append_assoc (to_come next t) (e.0 ∷ []) (reverse paths))
        ∙ ap (λ l. l ++ reverse paths) (sym here)
        ∙ climbed

    pub climb_less : length (to_come next t) < length (to_come found t)
    climb_less = subst (λ (l : List PathOf). length (to_come next t) < length l) (sym here) (one_less (to_come next t))
      where
        one_less : (l : List PathOf) → length l < length (l ++ e.0 ∷ [])
        one_less [] = omega arith
        one_less (x ∷ l) = let lt = one_less l in omega (arith, lt)

  pub climb_ends : (path : PathOf) (t : List (PathOf × V)) (found : Option (PathOf × V)) (paths : List PathOf) → IsClimbed path t found paths → found ≡ None → reverse paths ≡ ancestors path t
  climb_ends path t found paths climbed none = ap (λ u. to_come u t ++ reverse paths) (sym none) ∙ climbed
