-- The nearest entry above a path, by search.
use Rattle.std.proofs.Common.{◌≡◌, ◌<◌, Bool, true, false, cond, List, [], ◌∷◌, length, Option, Some, None, Ordering, Less, Equal, Greater, IsTrue, refl, sym, ap, subst, ◌∙◌, arith}
use Rattle.std.specs.Prelude.{◌==◌}
use Rattle.std.specs.Option.{option_or}
use Rattle.std.specs.List.{AllByRecursion}
use Rattle.std.specs.Ordering.{is_gt, is_lt}
use Rattle.std.specs.FinMap.{is_sorted}
use Rattle.std.specs.FinMap.Entries.{below_all}
use Rattle.std.proofs.lemmas.Bool.{and_parts, eqb-true}
use Rattle.std.proofs.lemmas.Cmp.{tied_itself}
use Rattle.acl_names.specs.Paths.{path_cmp, PathOf}
use Rattle.acl_names.specs.Below.{encloses, is_above, parent, common}
use Rattle.acl_names.proofs.PathOrder.{path_total, exact_paths}
use Rattle.acl_names.proofs.Below.{convex, early_not_within, nothing_below, within_itself, within_trans}
use Rattle.acl_names.proofs.Parents.{below_parent, common_above, common_shorter, common_within}
use Rattle.acl_names.proofs.Basics.{not_both, false_from, is_less}
use Rattle.path_map.specs.Entries.{IsInOrder}
use Rattle.path_map.specs.Below.{up_to, nearest_above}
use Rattle.path_map.proofs.Places.{above, below}

-- ---- whether a path is the root

pub not_root : (p : PathOf) (b : Bool) → b ≡ (length p == 0) → b ≡ false → p ≡ [] → ⊥
not_root p b is some root = not_both b (is ∙ ap (λ (l : PathOf). length l == 0) root) some

pub is_root : (p : PathOf) (b : Bool) → b ≡ (length p == 0) → b ≡ true → p ≡ []
is_root p b is none = nothing p (eqb-true (length p) 0 (sym is ∙ none))
  where
    nothing : (q : PathOf) → length q ≡ 0 → q ≡ []
    nothing [] h = refl
    nothing (x ∷ q) h = absurd (omega (arith, h))

-- ---- the last entry that is not after a path

after_out : (t e : PathOf) → is_lt (path_cmp t e) ≡ true → encloses e t ≡ false
after_out t e lt = early_not_within e t (ap is_gt (above t e (is_less (path_cmp t e) lt)))

-- entries that are all after a path
abbrev AllAfter : {A : Type 0} → PathOf → List (PathOf × A) → Type 0
AllAfter t es = AllByRecursion (λ e. is_lt (path_cmp t e.0) ≡ true) es

-- what is above a path is at or above another
abbrev pub Alike : {A : Type 0} → PathOf → PathOf → List (PathOf × A) → Type 0
Alike p t es = AllByRecursion (λ e. is_above e.0 p ≡ encloses e.0 t) es

-- those up to a path are up to another
abbrev Bounded : {A : Type 0} → PathOf → PathOf → List (PathOf × A) → Type 0
Bounded t r es = AllByRecursion (λ e. is_lt (path_cmp t e.0) ≡ false → is_gt (path_cmp e.0 r) ≡ false) es

module _ {A : Type 0} where
  none_above : (t : PathOf) (es : List (PathOf × A)) → up_to t es ≡ None → AllAfter t es
  none_above t [] h = tt
  none_above t (e ∷ es) h = by (up_to t es) refl (is_lt (path_cmp t e.0)) refl h (none_above t es)
    where
      by : (u : Option (PathOf × A)) → up_to t es ≡ u → (b : Bool) → is_lt (path_cmp t e.0) ≡ b → option_or u (cond b None (Some e)) ≡ None → (up_to t es ≡ None → AllAfter t es) → AllAfter t (e ∷ es)
      by None is true lt k more = (lt, more is)
      by None is false lt k more = cc
      by (Some r) is b lt k more = cc

  skip_after : (p t : PathOf) (es : List (PathOf × A)) → Alike p t es → AllAfter t es → nearest_above p es ≡ None
  skip_after p t [] a h = refl
  skip_after p t (e ∷ es) a h = (λ i. option_or (skip_after p t es a.1 h.1 i) (cond ((a.0 ∙ after_out t e.0 h.0) i) (Some e) None))

  found_last : (p t : PathOf) (es : List (PathOf × A)) (r : PathOf × A) → Alike p t es → up_to t es ≡ Some r → encloses r.0 t ≡ true → nearest_above p es ≡ Some r
  found_last p t [] r a h w = cc
  found_last p t (e ∷ es) r a h w = by (up_to t es) refl (is_lt (path_cmp t e.0)) h (found_last p t es r a.1)
    where
      by : (u : Option (PathOf × A)) → up_to t es ≡ u → (b : Bool) → option_or u (cond b None (Some e)) ≡ Some r
          → (up_to t es ≡ Some r → encloses r.0 t ≡ true → nearest_above p es ≡ Some r)
          → nearest_above p (e ∷ es) ≡ Some r
      by (Some s) is b k more = ap (λ o. option_or o (cond (is_above e.0 p) (Some e) None)) (more (is ∙ k) w)
      by None is true k more = cc
      by None is false k more =
          let same : e ≡ r = cc in
          let inside : is_above e.0 p ≡ true = a.0 ∙ ap (λ (x : PathOf × A). encloses x.0 t) same ∙ w in
          (λ i. option_or (skip_after p t es a.1 (none_above t es is) i) (cond (inside i) (Some e) None)) ∙ ap Some same

  last_early : (t : PathOf) (es : List (PathOf × A)) (r : PathOf × A) → up_to t es ≡ Some r → is_lt (path_cmp t r.0) ≡ false
  last_early t [] r h = cc
  last_early t (e ∷ es) r h = by (up_to t es) refl (is_lt (path_cmp t e.0)) refl h (last_early t es r)
    where
      by : (u : Option (PathOf × A)) → up_to t es ≡ u → (b : Bool) → is_lt (path_cmp t e.0) ≡ b → option_or u (cond b None (Some e)) ≡ Some r
          → (up_to t es ≡ Some r → is_lt (path_cmp t r.0) ≡ false) → is_lt (path_cmp t r.0) ≡ false
      by (Some s) is b lt k more = more (is ∙ k)
      by None is true lt k more = cc
      by None is false lt k more = let same : e ≡ r = cc in ap (λ x. is_lt (path_cmp t x.0)) (sym same) ∙ lt

  last_later : (x t : PathOf) (es : List (PathOf × A)) (r : PathOf × A) → IsTrue (below_all path_cmp x es) → up_to t es ≡ Some r → path_cmp x r.0 ≡ Less
  last_later x t [] r b h = cc
  last_later x t (e ∷ es) r b h =
      let parts = and_parts (is_lt (path_cmp x e.0)) (below_all path_cmp x es) b in
      by (up_to t es) refl (is_lt (path_cmp t e.0)) h parts.0 (last_later x t es r parts.1)
    where
      by : (u : Option (PathOf × A)) → up_to t es ≡ u → (c : Bool) → option_or u (cond c None (Some e)) ≡ Some r → is_lt (path_cmp x e.0) ≡ true
          → (up_to t es ≡ Some r → path_cmp x r.0 ≡ Less) → path_cmp x r.0 ≡ Less
      by (Some s) is c k here more = more (is ∙ k)
      by None is true k here more = cc
      by None is false k here more = let same : e ≡ r = cc in ap (λ z. path_cmp x z.0) (sym same) ∙ is_less _ here

  -- an entry that is not after a path is not after the last such
  last_bound : (t : PathOf) (es : List (PathOf × A)) (r : PathOf × A) → IsInOrder es → up_to t es ≡ Some r → Bounded t r.0 es
  last_bound t [] r o h = tt
  last_bound t (e ∷ es) r o h =
      let parts = and_parts (below_all path_cmp e.0 es) (is_sorted path_cmp es) o in
      by (up_to t es) refl (is_lt (path_cmp t e.0)) h parts.0 (last_bound t es r parts.1)
    where
      vacuous : (fs : List (PathOf × A)) → AllAfter t fs → Bounded t r.0 fs
      vacuous [] a = tt
      vacuous (f ∷ fs) a = ((λ k. absurd (not_both (is_lt (path_cmp t f.0)) a.0 k)), vacuous fs a.1)

      by : (u : Option (PathOf × A)) → up_to t es ≡ u → (c : Bool) → option_or u (cond c None (Some e)) ≡ Some r → IsTrue (below_all path_cmp e.0 es)
          → (up_to t es ≡ Some r → Bounded t r.0 es) → Bounded t r.0 (e ∷ es)
      by (Some s) is c k first more = ((λ z. ap is_gt (last_later e.0 t es r first (is ∙ k))), more (is ∙ k))
      by None is true k first more = cc
      by None is false k first more =
          let same : e ≡ r = cc in
          ((λ z. ap (λ x. is_gt (path_cmp e.0 x.0)) (sym same) ∙ ap is_gt (tied_itself path_total e.0)), vacuous es (none_above t es is))

-- ---- the search

order_cases : (t r : PathOf) → is_lt (path_cmp t r) ≡ false → encloses r t ≡ false → path_cmp r t ≡ Less
order_cases t r early out = by (path_cmp t r) refl
  where
    by : (o : Ordering) → path_cmp t r ≡ o → path_cmp r t ≡ Less
    by Less is = absurd (not_both (is_lt (path_cmp t r)) (ap is_lt is) early)
    by Equal is = absurd (not_both (encloses r t) (ap (encloses r) (exact_paths t r is) ∙ within_itself r) out)
    by Greater is = below t r is

-- nothing is above the root
pub root_alone : {A : Type 0} (p : PathOf) (es : List (PathOf × A)) → p ≡ [] → nearest_above p es ≡ None
root_alone {A = A} p es root = ap (λ q. nearest_above q es) root ∙ none es
  where
    none : (es : List (PathOf × A)) → nearest_above [] es ≡ None
    none [] = refl
    none (e ∷ es) = (λ i. option_or (none es i) (cond (nothing_below e.0 i) (Some e) None))

-- the entries above a path are those at or above its parent
pub alike_begins : {A : Type 0} (p : PathOf) (es : List (PathOf × A)) (t : PathOf) → (p ≡ [] → ⊥) → t ≡ parent p → Alike p t es
alike_begins {A = A} p es t some is = subst (λ q. Alike p q es) (sym is) (all es)
  where
    all : (es : List (PathOf × A)) → Alike p (parent p) es
    all [] = tt
    all (e ∷ es) = (below_parent e.0 p some, all es)

pub alike_found : {A : Type 0} (p : PathOf) (es : List (PathOf × A)) (t : PathOf) (r : PathOf × A) → Alike p t es → up_to t es ≡ Some r → encloses r.0 t ≡ true → nearest_above p es ≡ Some r
alike_found p es t r alike is inside = found_last p t es r alike is inside

pub alike_ends : {A : Type 0} (p : PathOf) (es : List (PathOf × A)) (t : PathOf) → Alike p t es → up_to t es ≡ None → nearest_above p es ≡ None
alike_ends p es t alike is = skip_after p t es alike (none_above t es is)

module _ {A : Type 0} (es : List (PathOf × A)) (t : PathOf) (r : PathOf × A) (order : IsInOrder es) (is : up_to t es ≡ Some r) (out : encloses r.0 t ≡ false) where
  early : is_lt (path_cmp t r.0) ≡ false
  early = last_early t es r is

  before : path_cmp r.0 t ≡ Less
  before = order_cases t r.0 early out

  pub alike_shorter : length (common t r.0) < length t
  alike_shorter = common_shorter t r.0 (early_not_within t r.0 (ap is_gt (above r.0 t before)))

  cut_alike : (e : PathOf) → (is_lt (path_cmp t e) ≡ false → is_gt (path_cmp e r.0) ≡ false) → encloses e t ≡ encloses e (common t r.0)
  cut_alike e bound = by (encloses e t) refl
    where
      by : (b : Bool) → encloses e t ≡ b → b ≡ encloses e (common t r.0)
      by true w = sym (common_above e t r.0 w (convex e r.0 t (bound (not_after w)) before w))
        where
          not_after : encloses e t ≡ true → is_lt (path_cmp t e) ≡ false
          not_after w = false_from (is_lt (path_cmp t e)) (λ lt. not_both (encloses e t) w (after_out t e lt))
      by false w = sym (false_from (encloses e (common t r.0)) (λ k. not_both (encloses e t) (within_trans e (common t r.0) t k (common_within t r.0)) w))

  pub alike_on : (p : PathOf) → Alike p t es → Alike p (common t r.0) es
  alike_on p alike = all es alike (last_bound t es r order is)
    where
      all : (fs : List (PathOf × A)) → Alike p t fs → Bounded t r.0 fs → Alike p (common t r.0) fs
      all [] a b = tt
      all (e ∷ fs) a b = (a.0 ∙ cut_alike e.0 b.0, all fs a.1 b.1)
