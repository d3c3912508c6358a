-- The entries at or below some paths, and the nearest above a path.
use Rattle.std.proofs.Common.{◌≡◌, Bool, true, false, not, ◌||◌, cond, IsTrue, List, [], ◌∷◌, ◌++◌, Option, Some, None, Ordering, Less, Equal, Greater, refl, sym, ap, subst, ◌∙◌}
use Rattle.std.specs.Prelude.{if◌then◌else◌}
use Rattle.std.specs.List.{AllByRecursion}
use Rattle.std.specs.Option.{option_or}
use Rattle.std.specs.Ordering.{is_gt, is_lt}
use Rattle.std.specs.FinMap.{is_sorted}
use Rattle.std.specs.FinMap.Entries.{below_all}
use Rattle.std.proofs.lemmas.Bool.{and_parts}
use Rattle.std.proofs.lemmas.Cmp.{tied_itself}
use Rattle.acl_names.specs.Paths.{path_cmp, PathOf}
use Rattle.acl_names.specs.Below.{encloses, is_above}
use Rattle.acl_names.proofs.PathOrder.{path_total, exact_paths}
use Rattle.acl_names.proofs.Basics.{not_both, false_from, is_less}
use Rattle.acl_names.proofs.Below.{within_itself, within_trans, convex, not_before, below_within, below_less, not_below_itself, within_cases, convex_below, below_trans, below_of_within}
use Rattle.path_map.specs.Entries.{IsInOrder}
use Rattle.path_map.specs.Below.{within, is_passed, nearest_above}
use Rattle.path_map.proofs.Places.{below}
use Rattle.path_classes.specs.ClassesWithin.{is_inside, inside, outside, AreTops}

-- ---- paths

-- what is at or above one above a path is above the path
pub above_below : (t e p : PathOf) → encloses t e ≡ true → is_above e p ≡ true → is_above t p ≡ true
above_below t e p w over = by (is_above t e) refl
  where
    by : (b : Bool) → is_above t e ≡ b → is_above t p ≡ true
    by true is = below_trans t e p is over
    by false is = subst (λ z. is_above z p ≡ true) (sym (within_cases t e w is)) over

-- neither before a path nor passed by it
pub passed_parts : (s t : PathOf) → is_passed s t ≡ false → (is_gt (path_cmp s t) ≡ false) × (encloses s t ≡ false)
passed_parts s t h = by (is_gt (path_cmp s t)) (encloses s t) h
  where
    by : (a b : Bool) → (a || b) ≡ false → (a ≡ false) × (b ≡ false)
    by false false h = (refl, refl)
    by false true h = cc
    by true b h = cc

-- what is not before a later top is not within the top
pub beyond : (s t p : PathOf) → is_passed s t ≡ false → is_gt (path_cmp t p) ≡ false → encloses s p ≡ false
beyond s t p h le = false_from (encloses s p) (λ w. by w (path_cmp t p) refl le)
  where
    parts : (is_gt (path_cmp s t) ≡ false) × (encloses s t ≡ false)
    parts = passed_parts s t h

    by : encloses s p ≡ true → (o : Ordering) → path_cmp t p ≡ o → is_gt o ≡ false → ⊥
    by w Less is k = not_both (encloses s t) (convex s t p parts.0 is w) parts.1
    by w Equal is k = not_both (encloses s t) (subst (λ z. encloses s z ≡ true) (sym (exact_paths t p is)) w) parts.1
    by w Greater is k = cc

pub none_inside : (tops : List PathOf) (t p : PathOf) → AllByRecursion (λ s. is_passed s t ≡ false) tops → is_gt (path_cmp t p) ≡ false → is_inside tops p ≡ false
none_inside [] t p h le = refl
none_inside (s ∷ tops) t p h le = ap (λ b. b || is_inside tops p) (beyond s t p h.0 le) ∙ none_inside tops t p h.1 le

-- what encloses a path that is above another one is above that
any_above : (tops : List PathOf) (e p : PathOf) → is_inside tops e ≡ true → is_above e p ≡ true → AllByRecursion (λ s. is_above s p ≡ false) tops → ⊥
any_above [] e p i over h = cc
any_above (s ∷ tops) e p i over h = by (encloses s e) refl i (λ j. any_above tops e p j over h.1)
  where
    by : (b : Bool) → encloses s e ≡ b → (b || is_inside tops e) ≡ true → (is_inside tops e ≡ true → ⊥) → ⊥
    by true w i more = not_both (is_above s p) (above_below s e p w over) h.0
    by false w i more = more i

-- what is above something inside is outside, or inside itself
pub inside_below : (tops : List PathOf) (e p : PathOf) → is_inside tops e ≡ true → encloses e p ≡ true → is_inside tops p ≡ true
inside_below [] e p i w = cc
inside_below (s ∷ tops) e p i w = by (encloses s e) refl i (λ j. inside_below tops e p j w)
  where
    yes : (b : Bool) → (b || true) ≡ true
    yes true = refl
    yes false = refl

    by : (b : Bool) → encloses s e ≡ b → (b || is_inside tops e) ≡ true → (is_inside tops e ≡ true → is_inside tops p ≡ true) → (encloses s p || is_inside tops p) ≡ true
    by true is i more = ap (λ b. b || is_inside tops p) (within_trans s e p is w)
    by false is i more = ap (λ b. encloses s p || b) (more i) ∙ yes (encloses s p)

pub not_above_outside : (tops : List PathOf) (p : PathOf) → is_inside tops p ≡ false → AllByRecursion (λ s. is_above s p ≡ false) tops
not_above_outside [] p h = tt
not_above_outside (s ∷ tops) p h = by (encloses s p) refl h (not_above_outside tops p)
  where
    by : (b : Bool) → encloses s p ≡ b → (b || is_inside tops p) ≡ false → (is_inside tops p ≡ false → AllByRecursion (λ s. is_above s p ≡ false) tops)
        → AllByRecursion (λ s. is_above s p ≡ false) (s ∷ tops)
    by true w h more = cc
    by false w h more = (false_from (is_above s p) (λ k. not_both (encloses s p) (below_within s p k) w), more h)

-- ---- tops

pub tops_parts : (done : List PathOf) (t : PathOf) (ts : List PathOf) → AreTops (done ++ t ∷ ts) → AllByRecursion (λ s. is_passed s t ≡ false) done × AllByRecursion (λ s. is_passed t s ≡ false) ts
tops_parts [] t ts h = (tt, h.0)
tops_parts (s ∷ done) t ts h = let more = tops_parts done t ts h.1 in ((middle done h.0, more.0), more.1)
  where
    middle : (done : List PathOf) → AllByRecursion (λ r. is_passed s r ≡ false) (done ++ t ∷ ts) → is_passed s t ≡ false
    middle [] h = h.0
    middle (r ∷ done) h = middle done h.1

no_cycle : (s t : PathOf) → path_cmp s t ≡ Less → path_cmp t s ≡ Less → ⊥
no_cycle s t h k = apart (sym (tied_itself path_total s) ∙ path_total.trans s t s h k)
  where
    apart : Equal ≡ Less → ⊥
    apart e = cc

-- a later top is not above
later_apart : (s t : PathOf) → is_passed t s ≡ false → is_above s t ≡ false
later_apart s t h = false_from (is_above s t) (λ k. by k (path_cmp t s) refl (passed_parts t s h).0)
  where
    by : is_above s t ≡ true → (o : Ordering) → path_cmp t s ≡ o → is_gt o ≡ false → ⊥
    by k Less is g = no_cycle s t (below_less s t k) is
    by k Equal is g = not_both (is_above s t) k (subst (λ z. is_above s z ≡ false) (sym (exact_paths t s is)) (not_below_itself s))
    by k Greater is g = cc

-- no top is above another one
pub no_top_above : (done : List PathOf) (t : PathOf) (ts : List PathOf) → AreTops (done ++ t ∷ ts) → AllByRecursion (λ s. is_above s t ≡ false) (done ++ t ∷ ts)
no_top_above done t ts h = let parts = tops_parts done t ts h in all done parts.0 parts.1
  where
    later : (ts : List PathOf) → AllByRecursion (λ s. is_passed t s ≡ false) ts → AllByRecursion (λ s. is_above s t ≡ false) ts
    later [] h = tt
    later (s ∷ ts) h = (later_apart s t h.0, later ts h.1)

    all : (done : List PathOf) → AllByRecursion (λ s. is_passed s t ≡ false) done → AllByRecursion (λ s. is_passed t s ≡ false) ts → AllByRecursion (λ s. is_above s t ≡ false) (done ++ t ∷ ts)
    all [] h k = (not_below_itself t, later ts k)
    all (s ∷ done) h k = (false_from (is_above s t) (λ o. not_both (encloses s t) (below_within s t o) (passed_parts s t h.0).1), all done h.1 k)

-- ---- entries

module _ {V : Type 0} where
  pub nearest_two : (p : PathOf) (es fs : List (PathOf × V)) → nearest_above p (es ++ fs) ≡ option_or (nearest_above p fs) (nearest_above p es)
  nearest_two p [] fs = by (nearest_above p fs)
    where
      by : (o : Option (PathOf × V)) → o ≡ option_or o None
      by None = refl
      by (Some e) = refl
  nearest_two p (e ∷ es) fs = ap (λ o. option_or o (if is_above e.0 p then Some e else None)) (nearest_two p es fs)
      ∙ by (nearest_above p fs) (nearest_above p es) (if is_above e.0 p then Some e else None)
    where
      by : (a b c : Option (PathOf × V)) → option_or (option_or a b) c ≡ option_or a (option_or b c)
      by None b c = refl
      by (Some x) b c = refl

  pub nearest_none : (p : PathOf) (es : List (PathOf × V)) → AllByRecursion (λ e. is_above e.0 p ≡ false) es → nearest_above p es ≡ None
  nearest_none p [] h = refl
  nearest_none p (e ∷ es) h = (λ i. option_or (nearest_none p es h.1 i) (if h.0 i then Some e else None))

  pub nearest_is : (P : PathOf × V → Type 0) (p : PathOf) (es : List (PathOf × V)) (r : PathOf × V) → AllByRecursion P es → nearest_above p es ≡ Some r → P r
  nearest_is P p [] r h is = cc
  nearest_is P p (e ∷ es) r h is = by (nearest_above p es) refl (is_above e.0 p) is (nearest_is P p es r h.1)
    where
      by : (o : Option (PathOf × V)) → nearest_above p es ≡ o → (b : Bool) → option_or o (cond b (Some e) None) ≡ Some r → (nearest_above p es ≡ Some r → P r) → P r
      by (Some f) at b k more = more (at ∙ k)
      by None at true k more = let same : e ≡ r = cc in subst P same h.0
      by None at false k more = cc

  -- what is inside is not above a path that no top is above
  pub outside_above : (tops : List PathOf) (p : PathOf) → AllByRecursion (λ s. is_above s p ≡ false) tops → (es : List (PathOf × V)) → nearest_above p (outside tops es) ≡ nearest_above p es
  outside_above tops p h [] = refl
  outside_above tops p h (e ∷ es) = by (is_inside tops e.0) refl (outside_above tops p h es)
    where
      by : (b : Bool) → is_inside tops e.0 ≡ b → nearest_above p (outside tops es) ≡ nearest_above p es
          → nearest_above p (cond (not b) (e ∷ outside tops es) (outside tops es)) ≡ nearest_above p (e ∷ es)
      by false is rest = ap (λ o. option_or o (if is_above e.0 p then Some e else None)) rest
      by true is rest =
          let apart : is_above e.0 p ≡ false = false_from (is_above e.0 p) (λ k. any_above tops e.0 p is k h) in
          rest ∙ same (nearest_above p es) ∙ ap (λ b. option_or (nearest_above p es) (if b then Some e else None)) (sym apart)
        where
          same : (o : Option (PathOf × V)) → o ≡ option_or o None
          same None = refl
          same (Some x) = refl

  -- what is above a path within a top is above the top, or within it
  pub above_top : (t p : PathOf) (es : List (PathOf × V)) → encloses t p ≡ true → AllByRecursion (λ e. encloses t e.0 ≡ false) es → nearest_above p es ≡ nearest_above t es
  above_top t p [] w h = refl
  above_top t p (e ∷ es) w h = λ i. option_or (above_top t p es w h.1 i) (if same (is_above e.0 t) refl i then Some e else None)
    where
      at_less : is_above e.0 p ≡ true → path_cmp t p ≡ Less → (o : Ordering) → path_cmp e.0 t ≡ o → is_above e.0 t ≡ true
      at_less over at Less is = convex_below e.0 t p is at over
      at_less over at Equal is = absurd (not_both (encloses t e.0) (subst (λ z. encloses t z ≡ true) (sym (exact_paths e.0 t is)) (within_itself t)) h.0)
      at_less over at Greater is = absurd (not_both (encloses t e.0) (convex t e.0 p (ap is_gt (below e.0 t is)) (below_less e.0 p over) w) h.0)

      up : is_above e.0 p ≡ true → (o : Ordering) → path_cmp t p ≡ o → is_above e.0 t ≡ true
      up over Less at = at_less over at (path_cmp e.0 t) refl
      up over Equal at = subst (λ z. is_above e.0 z ≡ true) (sym (exact_paths t p at)) over
      up over Greater at = absurd (not_both (is_gt (path_cmp t p)) (ap is_gt at) (not_before t p w))

      same : (b : Bool) → is_above e.0 t ≡ b → is_above e.0 p ≡ is_above e.0 t
      same true is = below_of_within e.0 t p is w ∙ sym is
      same false is = false_from (is_above e.0 p) (λ k. not_both (is_above e.0 t) (up k (path_cmp t p) refl) is) ∙ sym is

  -- ---- inside and outside

  pub all_inside : (tops : List PathOf) (es : List (PathOf × V)) → AllByRecursion (λ e. is_inside tops e.0 ≡ true) (inside tops es)
  all_inside tops [] = tt
  all_inside tops (e ∷ es) = by (is_inside tops e.0) refl (all_inside tops es)
    where
      by : (b : Bool) → is_inside tops e.0 ≡ b → AllByRecursion (λ e. is_inside tops e.0 ≡ true) (inside tops es)
          → AllByRecursion (λ e. is_inside tops e.0 ≡ true) (cond b (e ∷ inside tops es) (inside tops es))
      by true is more = (is, more)
      by false is more = more

  pub all_within : (t : PathOf) (es : List (PathOf × V)) → AllByRecursion (λ e. encloses t e.0 ≡ true) (within t es)
  all_within t [] = tt
  all_within t (e ∷ es) = by (encloses t e.0) refl (all_within t es)
    where
      by : (b : Bool) → encloses t e.0 ≡ b → AllByRecursion (λ e. encloses t e.0 ≡ true) (within t es) → AllByRecursion (λ e. encloses t e.0 ≡ true) (cond b (e ∷ within t es) (within t es))
      by true is more = (is, more)
      by false is more = more

  pub all_outside : (tops : List PathOf) (es : List (PathOf × V)) → AllByRecursion (λ e. is_inside tops e.0 ≡ false) (outside tops es)
  all_outside tops [] = tt
  all_outside tops (e ∷ es) = by (is_inside tops e.0) refl (all_outside tops es)
    where
      by : (b : Bool) → is_inside tops e.0 ≡ b → AllByRecursion (λ e. is_inside tops e.0 ≡ false) (outside tops es)
          → AllByRecursion (λ e. is_inside tops e.0 ≡ false) (cond (not b) (e ∷ outside tops es) (outside tops es))
      by true is more = more
      by false is more = (is, more)

  -- what is inside with another top
  pub inside_more : (done : List PathOf) (t : PathOf) → AllByRecursion (λ s. is_passed s t ≡ false) done → (es : List (PathOf × V)) → IsInOrder es
      → inside (done ++ t ∷ []) es ≡ inside done es ++ within t es
  inside_more done t h [] order = refl
  inside_more done t h (e ∷ es) order =
      let parts = and_parts (below_all path_cmp e.0 es) (is_sorted path_cmp es) order in
      by (is_inside done e.0) refl (encloses t e.0) refl (two done e.0) parts.0 (inside_more done t h es parts.1)
    where
      two : (ss : List PathOf) (p : PathOf) → is_inside (ss ++ t ∷ []) p ≡ (is_inside ss p || encloses t p)
      two [] p = yes (encloses t p)
        where
          yes : (b : Bool) → (b || false) ≡ b
          yes true = refl
          yes false = refl
      two (s ∷ ss) p = ap (λ b. encloses s p || b) (two ss p) ∙ yes (encloses s p) (is_inside ss p) (encloses t p)
        where
          yes : (a b c : Bool) → (a || (b || c)) ≡ ((a || b) || c)
          yes true b c = refl
          yes false b c = refl

      -- what is after a path within the top is not inside the others
      none : (fs : List (PathOf × V)) → encloses t e.0 ≡ true → IsTrue (below_all path_cmp e.0 fs) → inside done fs ≡ []
      none [] w b = refl
      none (f ∷ fs) w b =
          let parts = and_parts (is_lt (path_cmp e.0 f.0)) (below_all path_cmp e.0 fs) b in
          ap (λ b. cond b (f ∷ inside done fs) (inside done fs)) (none_inside done t f.0 h (after (path_cmp t e.0) refl (not_before t e.0 w) (is_less (path_cmp e.0 f.0) parts.0)))
          ∙ none fs w parts.1
        where
          after : (o : Ordering) → path_cmp t e.0 ≡ o → is_gt o ≡ false → path_cmp e.0 f.0 ≡ Less → is_gt (path_cmp t f.0) ≡ false
          after Less is g lt = ap is_gt (path_total.trans t e.0 f.0 is lt)
          after Equal is g lt = ap (λ z. is_gt (path_cmp z f.0)) (exact_paths t e.0 is) ∙ ap is_gt lt
          after Greater is g lt = cc

      by : (a : Bool) → is_inside done e.0 ≡ a → (b : Bool) → encloses t e.0 ≡ b → is_inside (done ++ t ∷ []) e.0 ≡ (is_inside done e.0 || encloses t e.0) → IsTrue (below_all path_cmp e.0 es)
          → inside (done ++ t ∷ []) es ≡ inside done es ++ within t es
          → cond (is_inside (done ++ t ∷ []) e.0) (e ∷ inside (done ++ t ∷ []) es) (inside (done ++ t ∷ []) es) ≡ cond a (e ∷ inside done es) (inside done es) ++ cond b (e ∷ within t es) (within t es)
      by true i true w both first rest = absurd (not_both (is_inside done e.0) i (none_inside done t e.0 h (not_before t e.0 w)))
      by true i false w both first rest = ap (λ b. cond b (e ∷ inside (done ++ t ∷ []) es) (inside (done ++ t ∷ []) es)) (both ∙ ap (λ b. b || encloses t e.0) i) ∙ ap (λ l. e ∷ l) rest
      by false i true w both first rest =
          ap (λ b. cond b (e ∷ inside (done ++ t ∷ []) es) (inside (done ++ t ∷ []) es)) (both ∙ (λ j. i j || w j))
          ∙ ap (λ l. e ∷ l) (rest ∙ ap (λ l. l ++ within t es) (none es w first))
          ∙ ap (λ l. l ++ e ∷ within t es) (sym (none es w first))
      by false i false w both first rest = ap (λ b. cond b (e ∷ inside (done ++ t ∷ []) es) (inside (done ++ t ∷ []) es)) (both ∙ (λ j. i j || w j)) ∙ rest

  -- the nearest above a path: first of those inside, then of those outside
  pub nearest_parts : (tops : List PathOf) (p : PathOf) (es : List (PathOf × V)) → IsInOrder es → nearest_above p es ≡ option_or (nearest_above p (inside tops es)) (nearest_above p (outside tops es))
  nearest_parts tops p [] order = refl
  nearest_parts tops p (e ∷ es) order =
      let parts = and_parts (below_all path_cmp e.0 es) (is_sorted path_cmp es) order in
      ap (λ o. option_or o (if is_above e.0 p then Some e else None)) (nearest_parts tops p es parts.1)
      ∙ by (is_inside tops e.0) refl (is_above e.0 p) refl parts.0
    where
      -- what is after a path inside that is above the path is inside, or not above it
      none : (fs : List (PathOf × V)) → is_inside tops e.0 ≡ true → is_above e.0 p ≡ true → IsTrue (below_all path_cmp e.0 fs) → nearest_above p (outside tops fs) ≡ None
      none [] i over b = refl
      none (f ∷ fs) i over b =
          let parts = and_parts (is_lt (path_cmp e.0 f.0)) (below_all path_cmp e.0 fs) b in
          at (is_inside tops f.0) refl (is_less (path_cmp e.0 f.0) parts.0) (none fs i over parts.1)
        where
          at : (b : Bool) → is_inside tops f.0 ≡ b → path_cmp e.0 f.0 ≡ Less → nearest_above p (outside tops fs) ≡ None → nearest_above p (cond (not b) (f ∷ outside tops fs) (outside tops fs)) ≡ None
          at true is lt rest = rest
          at false is lt rest =
              let apart : is_above f.0 p ≡ false = false_from (is_above f.0 p) (λ k.
              not_both (is_inside tops f.0) (inside_below tops e.0 f.0 i (below_within e.0 f.0 (convex_below e.0 f.0 p lt (below_less f.0 p k) over))) is) in
              (λ j. option_or (rest j) (if apart j then Some f else None))

      shift : (a b c : Option (PathOf × V)) → option_or (option_or a b) c ≡ option_or a (option_or b c)
      shift None b c = refl
      shift (Some x) b c = refl

      by : (a : Bool) → is_inside tops e.0 ≡ a → (b : Bool) → is_above e.0 p ≡ b → IsTrue (below_all path_cmp e.0 es)
          → option_or (option_or (nearest_above p (inside tops es)) (nearest_above p (outside tops es))) (cond (is_above e.0 p) (Some e) None)
          ≡ option_or (nearest_above p (cond a (e ∷ inside tops es) (inside tops es))) (nearest_above p (cond (not a) (e ∷ outside tops es) (outside tops es)))
      by false i b is first = shift (nearest_above p (inside tops es)) (nearest_above p (outside tops es)) (cond (is_above e.0 p) (Some e) None)
      by true i true is first =
          ap (λ o. option_or (option_or (nearest_above p (inside tops es)) o) (cond (is_above e.0 p) (Some e) None)) (none es i is first)
          ∙ turn (nearest_above p (inside tops es)) (cond (is_above e.0 p) (Some e) None)
          ∙ ap (λ o. option_or (option_or (nearest_above p (inside tops es)) (cond (is_above e.0 p) (Some e) None)) o) (sym (none es i is first))
        where
          turn : (a c : Option (PathOf × V)) → option_or (option_or a None) c ≡ option_or (option_or a c) None
          turn None None = refl
          turn None (Some x) = refl
          turn (Some x) c = refl
      by true i false is first =
          ap (λ b. option_or (option_or (nearest_above p (inside tops es)) (nearest_above p (outside tops es))) (cond b (Some e) None)) is
          ∙ drop_last (nearest_above p (inside tops es)) (nearest_above p (outside tops es))
          ∙ ap (λ b. option_or (option_or (nearest_above p (inside tops es)) (cond b (Some e) None)) (nearest_above p (outside tops es))) (sym is)
        where
          drop_last : (a b : Option (PathOf × V)) → option_or (option_or a b) None ≡ option_or (option_or a None) b
          drop_last None None = refl
          drop_last None (Some x) = refl
          drop_last (Some x) b = refl

  -- what holds inside and outside holds of all
  pub all_parts : (P : PathOf × V → Type 0) (tops : List PathOf) (es : List (PathOf × V)) → AllByRecursion P (inside tops es) → AllByRecursion P (outside tops es) → AllByRecursion P es
  all_parts P tops [] h k = tt
  all_parts P tops (e ∷ es) h k = by (is_inside tops e.0) h k (all_parts P tops es)
    where
      by : (b : Bool) → AllByRecursion P (cond b (e ∷ inside tops es) (inside tops es)) → AllByRecursion P (cond (not b) (e ∷ outside tops es) (outside tops es))
          → (AllByRecursion P (inside tops es) → AllByRecursion P (outside tops es) → AllByRecursion P es) → AllByRecursion P (e ∷ es)
      by true h k more = (h.0, more h.1 k)
      by false h k more = (k.0, more h k.1)
