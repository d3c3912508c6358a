-- The entries above a path: the nearest of them, after those above it.
use Rattle.std.proofs.Common.{◌≡◌, Bool, true, false, cond, List, [], ◌∷◌, ◌++◌, map, filter, Option, Some, None, Less, Greater, IsTrue, refl, sym, ap, ◌∙◌}
use Rattle.std.specs.Prelude.{option_map}
use Rattle.std.specs.Option.{option_or}
use Rattle.std.specs.Ordering.{is_lt}
use Rattle.std.specs.FinMap.{is_sorted}
use Rattle.std.specs.FinMap.Entries.{below_all}
use Rattle.std.proofs.lemmas.Bool.{and_parts}
use Rattle.acl_names.specs.Paths.{path_cmp, PathOf}
use Rattle.acl_names.specs.Below.{is_above}
use Rattle.acl_names.proofs.Below.{below_less, below_trans, convex_below, not_below_itself}
use Rattle.acl_names.proofs.Basics.{not_both, false_from, is_less}
use Rattle.path_map.specs.Entries.{IsInOrder}
use Rattle.path_map.specs.Below.{nearest_above}
use Rattle.path_map.proofs.Places.{above}

-- the entries that a path is below
abbrev pub those : {V : Type 0} → PathOf → List (PathOf × V) → List (PathOf × V)
those p es = filter (λ e. is_above e.0 p) es

module _ {V : Type 0} where
  pub nearest_empty : (p : PathOf) (es : List (PathOf × V)) → nearest_above p es ≡ None → those p es ≡ []
  nearest_empty p [] h = refl
  nearest_empty p (e ∷ es) h = by (nearest_above p es) refl (is_above e.0 p) h (nearest_empty p es)
    where
      by : (u : Option (PathOf × V)) → nearest_above p es ≡ u → (b : Bool) → option_or u (cond b (Some e) None) ≡ None
          → (nearest_above p es ≡ None → those p es ≡ []) → cond b (e ∷ those p es) (those p es) ≡ []
      by (Some f) is b h more = cc
      by None is true h more = cc
      by None is false h more = more is

  pub nearest_is_above : (p : PathOf) (es : List (PathOf × V)) (r : PathOf × V) → nearest_above p es ≡ Some r → is_above r.0 p ≡ true
  nearest_is_above p [] r h = cc
  nearest_is_above p (e ∷ es) r h = by (nearest_above p es) refl (is_above e.0 p) refl h (nearest_is_above p es r)
    where
      by : (u : Option (PathOf × V)) → nearest_above p es ≡ u → (b : Bool) → is_above e.0 p ≡ b → option_or u (cond b (Some e) None) ≡ Some r
          → (nearest_above p es ≡ Some r → is_above r.0 p ≡ true) → is_above r.0 p ≡ true
      by (Some f) is b at h more = more (is ∙ h)
      by None is true at h more = let same : e ≡ r = cc in ap (λ (x : PathOf × V). is_above x.0 p) (sym same) ∙ at
      by None is false at h more = cc

  nearest_later : (x p : PathOf) (es : List (PathOf × V)) (r : PathOf × V) → IsTrue (below_all path_cmp x es) → nearest_above p es ≡ Some r → path_cmp x r.0 ≡ Less
  nearest_later x p [] r b h = cc
  nearest_later x p (e ∷ es) r b h =
      let parts = and_parts (is_lt (path_cmp x e.0)) (below_all path_cmp x es) b in
      by (nearest_above p es) refl (is_above e.0 p) h parts.0 (nearest_later x p es r parts.1)
    where
      by : (u : Option (PathOf × V)) → nearest_above p es ≡ u → (c : Bool) → option_or u (cond c (Some e) None) ≡ Some r → is_lt (path_cmp x e.0) ≡ true
          → (nearest_above p es ≡ Some r → path_cmp x r.0 ≡ Less) → path_cmp x r.0 ≡ Less
      by (Some f) is c h here more = more (is ∙ h)
      by None is true h here more = let same : e ≡ r = cc in ap (λ (z : PathOf × V). path_cmp x z.0) (sym same) ∙ is_less _ here
      by None is false h here more = cc

  -- no entry after a path is above it
  none_later : (q : PathOf) (es : List (PathOf × V)) → IsTrue (below_all path_cmp q es) → those q es ≡ []
  none_later q [] h = refl
  none_later q (e ∷ es) h =
      let parts = and_parts (is_lt (path_cmp q e.0)) (below_all path_cmp q es) h in
      let out : is_above e.0 q ≡ false = false_from (is_above e.0 q) (λ k. apart (sym (above q e.0 (is_less (path_cmp q e.0) parts.0)) ∙ below_less e.0 q k)) in
      ap (λ b. cond b (e ∷ those q es) (those q es)) out ∙ none_later q es parts.1
    where
      apart : Greater ≡ Less → ⊥
      apart e = cc

  none_over : (e : PathOf × V) (es : List (PathOf × V)) → IsTrue (below_all path_cmp e.0 es) → those e.0 (e ∷ es) ≡ []
  none_over e es h = ap (λ b. cond b (e ∷ those e.0 es) (those e.0 es)) (not_below_itself e.0) ∙ none_later e.0 es h

  pub nearest_last : (p : PathOf) (es : List (PathOf × V)) (r : PathOf × V) → IsInOrder es → nearest_above p es ≡ Some r → those p es ≡ those r.0 es ++ r ∷ []
  nearest_last p [] r order is = cc
  nearest_last p (e ∷ es) r order is =
      let parts = and_parts (below_all path_cmp e.0 es) (is_sorted path_cmp es) order in
      by (is_above e.0 p) refl (nearest_above p es) refl is parts.0 (nearest_last p es r parts.1)
    where
      by : (b : Bool) → is_above e.0 p ≡ b → (u : Option (PathOf × V)) → nearest_above p es ≡ u → option_or u (cond b (Some e) None) ≡ Some r → IsTrue (below_all path_cmp e.0 es)
          → (nearest_above p es ≡ Some r → those p es ≡ those r.0 es ++ r ∷ [])
          → cond b (e ∷ those p es) (those p es) ≡ those r.0 (e ∷ es) ++ r ∷ []
      by false out (Some f) some last after more =
          let found : nearest_above p es ≡ Some r = some ∙ last in
          let apart : is_above e.0 r.0 ≡ false = false_from (is_above e.0 r.0) (λ k. not_both (is_above e.0 p) (below_trans e.0 r.0 p k (nearest_is_above p es r found)) out) in
          more found ∙ sym (ap (λ b. cond b (e ∷ those r.0 es) (those r.0 es) ++ r ∷ []) apart)
      by true over (Some f) some last after more =
          let found : nearest_above p es ≡ Some r = some ∙ last in
          let inside : is_above e.0 r.0 ≡ true = convex_below e.0 r.0 p (nearest_later e.0 p es r after found) (below_less r.0 p (nearest_is_above p es r found)) over in
          ap (λ l. e ∷ l) (more found) ∙ sym (ap (λ b. cond b (e ∷ those r.0 es) (those r.0 es) ++ r ∷ []) inside)
      by false out None none last after more = cc
      by true over None none last after more =
          let same : e ≡ r = cc in
          ap (λ l. e ∷ l) (nearest_empty p es none) ∙ ap (λ (x : PathOf × V). x ∷ []) same
          ∙ ap (λ l. l ++ r ∷ []) (sym (none_over e es after) ∙ ap (λ (x : PathOf × V). those x.0 (e ∷ es)) same)
      -- ---- from one nearest entry to the next

module _ {V W : Type 0} (f : V → W) where
  abbrev pub valued : PathOf × V → PathOf × W
  valued e = (e.0, f e.1)

  -- other values leave what is nearest
  pub nearest_valued : (p : PathOf) (es : List (PathOf × V)) → nearest_above p (map valued es) ≡ option_map valued (nearest_above p es)
  nearest_valued p [] = refl
  nearest_valued p (e ∷ es) = ap (λ o. option_or o (cond (is_above e.0 p) (Some (valued e)) None)) (nearest_valued p es) ∙ by (nearest_above p es) (is_above e.0 p)
    where
      by : (u : Option (PathOf × V)) (b : Bool) → option_or (option_map valued u) (cond b (Some (valued e)) None) ≡ option_map valued (option_or u (cond b (Some e) None))
      by (Some r) b = refl
      by None true = refl
      by None false = refl
