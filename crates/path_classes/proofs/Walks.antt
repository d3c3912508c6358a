-- Entries in path order: those above a path, and the nearest of them.
use Rattle.std.proofs.Common.{◌≡◌, ℕ, zero, suc, ◌-◌, ◌<◌, ◌≤◌, Bool, true, false, List, [], ◌∷◌, length, map, take, get_or, Option, Some, None, Ordering}
use Rattle.std.proofs.Common.{Less, Equal, Greater, ◌++◌, IsTrue, refl, sym, ap, subst, ◌∙◌, arith}
use Rattle.std.specs.Prelude.{if◌then◌else◌}
use Rattle.std.specs.Ordering.{is_gt, is_lt}
use Rattle.std.specs.FinMap.{is_sorted}
use Rattle.std.specs.FinMap.Entries.{below_all}
use Rattle.std.proofs.lemmas.Bool.{and_parts}
use Rattle.std.proofs.lemmas.List.{length-map}
use Rattle.std.proofs.lemmas.Cmp.{tied_itself}
use Rattle.acl_names.specs.Paths.{path_cmp, PathOf}
use Rattle.acl_names.proofs.PathOrder.{path_total, exact_paths}
use Rattle.acl_names.specs.Below.{encloses, is_above}
use Rattle.acl_names.proofs.Below.{below_within, convex_below}
use Rattle.acl_names.proofs.Basics.{is_less, false_from}
use Rattle.path_map.specs.Entries.{IsInOrder}
use Rattle.path_classes.specs.Walks.{nearest_from, nearest, last_from, last_of, AllBefore}

-- ---- lists that come before a path

pub before_more : {A : Type 0} (es : List (PathOf × A)) (e : PathOf × A) (p : PathOf) → AllBefore p es → path_cmp e.0 p ≡ Less → AllBefore p (es ++ e ∷ [])
before_more [] e p h k = (k, tt)
before_more (d ∷ es) e p h k = (h.0, before_more es e p h.1 k)

pub before_take : {A : Type 0} (n : ℕ) (es : List (PathOf × A)) (p : PathOf) → AllBefore p es → AllBefore p (take n es)
before_take zero [] p h = tt
before_take zero (e ∷ es) p h = tt
before_take (suc n) [] p h = tt
before_take (suc n) (e ∷ es) p h = (h.0, before_take n es p h.1)

first_before : {A : Type 0} (x : PathOf) (es : List (PathOf × A)) (e : PathOf × A) (fs : List (PathOf × A)) → IsTrue (below_all path_cmp x (es ++ e ∷ fs)) → path_cmp x e.0 ≡ Less
first_before x [] e fs h = is_less (path_cmp x e.0) (and_parts (is_lt (path_cmp x e.0)) (below_all path_cmp x fs) h).0
first_before x (d ∷ es) e fs h = first_before x es e fs (and_parts (is_lt (path_cmp x d.0)) (below_all path_cmp x (es ++ e ∷ fs)) h).1

-- in path order, what is before a path comes before it
pub all_before : {A : Type 0} (es : List (PathOf × A)) (e : PathOf × A) (fs : List (PathOf × A)) → IsInOrder (es ++ e ∷ fs) → AllBefore e.0 es
all_before [] e fs h = tt
all_before (d ∷ es) e fs h =
    let parts = and_parts (below_all path_cmp d.0 (es ++ e ∷ fs)) (is_sorted path_cmp (es ++ e ∷ fs)) h in
    (first_before d.0 es e fs parts.0, all_before es e fs parts.1)

-- ---- the nearest above

pub nearest-append : {A : Type 0} (o : Option A) (p : PathOf) (es : List (PathOf × A)) (e : PathOf × A) → nearest_from o p (es ++ e ∷ []) ≡ (if is_above e.0 p then Some e.1 else nearest_from o p es)
nearest-append o p [] e = refl
nearest-append o p (d ∷ es) e = nearest-append (if is_above d.0 p then Some d.1 else o) p es e

take_none : {A : Type 0} (es : List A) → take 0 es ≡ []
take_none [] = refl
take_none (e ∷ es) = refl

pub take_all : {A : Type 0} (es : List A) → take (length es) es ≡ es
take_all [] = refl
take_all (e ∷ es) = ap (λ l. e ∷ l) (take_all es)

take_more : {A : Type 0} (n : ℕ) (es : List A) (d : A) → n < length es → take (suc n) es ≡ take n es ++ get_or es n d ∷ []
take_more n [] d lt = absurd (omega arith)
take_more zero (e ∷ es) d lt = ap (λ l. e ∷ l) (take_none es)
take_more (suc n) (e ∷ es) d lt = ap (λ l. e ∷ l) (take_more n es d (omega (arith, lt)))

last-append : {A : Type 0} (o : Option A) (es : List (PathOf × A)) (e : PathOf × A) → last_from o (es ++ e ∷ []) ≡ Some e.1
last-append o [] e = refl
last-append o (d ∷ es) e = last-append (Some d.1) es e

before_at : {A : Type 0} (es : List (PathOf × A)) (n : ℕ) (d : PathOf × A) (p : PathOf) → AllBefore p es → n < length es → path_cmp (get_or es n d).0 p ≡ Less
before_at [] n d p h lt = absurd (omega arith)
before_at (e ∷ es) zero d p h lt = h.0
before_at (e ∷ es) (suc n) d p h lt = before_at es n d p h.1 (omega (arith, lt))

seen_get : {A B : Type 0} (f : A → B) (xs : List A) (n : ℕ) (d : A) → get_or (map f xs) n (f d) ≡ f (get_or xs n d)
seen_get f [] n d = refl
seen_get f (x ∷ xs) zero d = refl
seen_get f (x ∷ xs) (suc n) d = seen_get f xs n d

-- ---- what is taken off the end

-- what encloses no path is not above it
pub not_within : (e q : PathOf) → encloses e q ≡ false → is_above e q ≡ false
not_within e q apart = false_from (is_above e q) (λ below. clash (encloses e q) (below_within e q below) apart)
  where
    clash : (b : Bool) → b ≡ true → b ≡ false → ⊥
    clash b h k = cc

pub not_above : (e q p : PathOf) → path_cmp e q ≡ Less → is_above e q ≡ false → is_gt (path_cmp q p) ≡ false → is_above e p ≡ false
not_above e q p before apart le = by (path_cmp q p) refl le
  where
    clash : (b : Bool) → b ≡ true → b ≡ false → ⊥
    clash b h k = cc

    by : (o : Ordering) → path_cmp q p ≡ o → is_gt o ≡ false → is_above e p ≡ false
    by Less is k = false_from (is_above e p) (λ below. clash (is_above e q) (convex_below e q p before is below) apart)
    by Equal is k = subst (λ r. is_above e r ≡ false) (exact_paths q p is) apart
    by Greater is k = cc

-- one that isn't above leads nowhere
pub shrunk : {A : Type 0} (es : List (PathOf × A)) (n : ℕ) (d : PathOf × A) (q p : PathOf) → AllBefore q es → n < length es → is_above (get_or es n d).0 q ≡ false → is_gt (path_cmp q p) ≡ false
    → nearest p (take n es) ≡ nearest p (take (suc n) es)
shrunk es n d q p before lt apart le =
    sym (ap (nearest p) (take_more n es d lt)
    ∙ nearest-append None p (take n es) (get_or es n d)
    ∙ ap (λ b. if b then Some (get_or es n d).1 else nearest p (take n es)) (not_above (get_or es n d).0 q p (before_at es n d q before lt) apart le))

pub last_above : {A : Type 0} (es : List (PathOf × A)) (n : ℕ) (d : PathOf × A) (q : PathOf) → n < length es → is_above (get_or es n d).0 q ≡ true
    → last_of (take (suc n) es) ≡ nearest q (take (suc n) es)
last_above es n d q lt here =
    ap last_of (take_more n es d lt) ∙ last-append None (take n es) (get_or es n d)
    ∙ sym (ap (nearest q) (take_more n es d lt) ∙ nearest-append None q (take n es) (get_or es n d) ∙ ap (λ b. if b then Some (get_or es n d).1 else nearest q (take n es)) here)

pub last_at : {A : Type 0} (es : List (PathOf × A)) (n : ℕ) (d : PathOf × A) → suc n ≡ length es → last_of es ≡ Some (get_or es n d).1
last_at es n d long =
    let lt : n < length es = omega (arith, long) in
    ap last_of (sym (ap (λ k. take k es) long ∙ take_all es)) ∙ ap last_of (take_more n es d lt) ∙ last-append None (take n es) (get_or es n d)

-- ---- for what is kept in rows of another form

pub take_seen : {A B : Type 0} (f : A → B) (n : ℕ) (xs : List A) → take n (map f xs) ≡ map f (take n xs)
take_seen f zero [] = refl
take_seen f zero (x ∷ xs) = refl
take_seen f (suc n) [] = refl
take_seen f (suc n) (x ∷ xs) = ap (λ l. f x ∷ l) (take_seen f n xs)

module _ {R : Type 0} {A : Type 0} (f : R → PathOf × A) where
  read : (xs : List R) (n : ℕ) (x : R) → x ≡ get_or xs n x → get_or (map f xs) n (f x) ≡ f x
  read xs n x is = seen_get f xs n x ∙ ap f (sym is)

  -- one of those before a path comes before it
  pub before_row : (xs : List R) (x : R) (depth : ℕ) (q : PathOf) → x ≡ get_or xs (depth - 1) x → 0 < depth → depth ≤ length xs → AllBefore q (map f xs) → path_cmp (f x).0 q ≡ Less
  before_row xs x depth q is some most before =
      let lt : depth - 1 < length (map f xs) = omega (arith, some, most, length-map xs f) in
      ap (λ (e : PathOf × A). path_cmp e.0 q) (sym (read xs (depth - 1) x is)) ∙ before_at (map f xs) (depth - 1) (f x) q before lt

  pub row_last : (xs : List R) (x : R) → 0 < length xs → x ≡ get_or xs (length xs - 1) x → last_of (map f xs) ≡ Some (f x).1
  row_last xs x some is =
      let long : suc (length xs - 1) ≡ length (map f xs) = omega (arith, some, length-map xs f) in
      last_at (map f xs) (length xs - 1) (f x) long ∙ ap (λ (e : PathOf × A). Some e.1) (read xs (length xs - 1) x is)

  pub shrink_step : (xs : List R) (x : R) (depth : ℕ) (q : PathOf) → x ≡ get_or xs (depth - 1) x → 0 < depth → depth ≤ length xs → AllBefore q (map f xs) → is_above (f x).0 q ≡ false
      → ((p : PathOf) → is_gt (path_cmp q p) ≡ false → nearest p (take depth (map f xs)) ≡ nearest p (map f xs))
      → (p : PathOf) → is_gt (path_cmp q p) ≡ false → nearest p (take (depth - 1) (map f xs)) ≡ nearest p (map f xs)
  shrink_step xs x depth q is some most before apart kept p le =
      let again : suc (depth - 1) ≡ depth = omega (arith, some) in
      let lt : depth - 1 < length (map f xs) = omega (arith, some, most, length-map xs f) in
      shrunk (map f xs) (depth - 1) (f x) q p before lt (ap (λ (e : PathOf × A). is_above e.0 q) (read xs (depth - 1) x is) ∙ apart) le
      ∙ ap (λ k. nearest p (take k (map f xs))) again ∙ kept p le

  pub top_step : (xs : List R) (x : R) (depth : ℕ) (q : PathOf) → x ≡ get_or xs (depth - 1) x → 0 < depth → depth ≤ length xs → is_above (f x).0 q ≡ true
      → ((p : PathOf) → is_gt (path_cmp q p) ≡ false → nearest p (take depth (map f xs)) ≡ nearest p (map f xs))
      → last_of (take depth (map f xs)) ≡ nearest q (map f xs)
  top_step xs x depth q is some most here kept =
      let again : suc (depth - 1) ≡ depth = omega (arith, some) in
      let lt : depth - 1 < length (map f xs) = omega (arith, some, most, length-map xs f) in
      ap (λ k. last_of (take k (map f xs))) (sym again)
      ∙ last_above (map f xs) (depth - 1) (f x) q lt (ap (λ (e : PathOf × A). is_above e.0 q) (read xs (depth - 1) x is) ∙ here)
      ∙ ap (λ k. nearest q (take k (map f xs))) again ∙ kept q (ap is_gt (tied_itself path_total q))

  pub none_left : (xs : List R) (depth : ℕ) (q : PathOf) → depth ≡ 0
      → ((p : PathOf) → is_gt (path_cmp q p) ≡ false → nearest p (take depth (map f xs)) ≡ nearest p (map f xs))
      → last_of (take depth (map f xs)) ≡ nearest q (map f xs)
  none_left xs depth q none kept =
      ap (λ k. last_of (take k (map f xs))) none ∙ ap last_of (take_none (map f xs)) ∙ sym (ap (nearest q) (take_none (map f xs))) ∙ ap (λ k. nearest q (take k (map f xs))) (sym none)
      ∙ kept q (ap is_gt (tied_itself path_total q))
