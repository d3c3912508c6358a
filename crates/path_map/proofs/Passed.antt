-- The entries after a path and after all below it.
use Rattle.std.proofs.Common.{◌≡◌, ℕ, ◌+◌, ◌-◌, ◌<◌, Bool, true, false, ◌||◌, not, cond, List, [], ◌∷◌, ◌++◌, length, get_or, take, drop, Ordering, Less, Equal}
use Rattle.std.proofs.Common.{Greater, refl, sym, ap, subst, ◌∙◌, arith, length-drop, true≢false, zero, suc, ◌≤◌, map, nat_lt, ltb-true, ltb-false}
use Rattle.std.specs.List.{zip, flat_map}
use Rattle.std.specs.List.Sorted.{IsPartitionPoint, IsPartitionedBy}
use Rattle.std.specs.Ordering.{is_gt}
use Rattle.std.specs.FinMap.{is_sorted}
use Rattle.std.specs.FinMap.Entries.{below_all}
use Rattle.std.proofs.lemmas.Bool.{and_parts}
use Rattle.std.proofs.lemmas.List.{get_or-drop, get_or-map, length-map}
use Rattle.acl_names.specs.Paths.{path_cmp, PathOf}
use Rattle.acl_names.specs.Below.{encloses}
use Rattle.acl_names.proofs.PathOrder.{path_total}
use Rattle.acl_names.proofs.Below.{convex}
use Rattle.path_map.specs.Entries.{IsInOrder}
use Rattle.path_map.specs.Below.{is_passed, after}
use Rattle.path_map.specs.Inner.{BeginsPassed, ArePassed, Before, After}
use Rattle.path_map.proofs.Places.{above, below, rises}
use Rattle.path_map.proofs.Chunks.{around, in_order-right}
use Rattle.path_map.proofs.Merges.{before_part, later_after}
use Rattle.path_map.proofs.Zipped.{keyed, keys_in_order}

-- what is before one that is passed is passed
before_passed : (top q p : PathOf) → path_cmp q p ≡ Less → is_passed top p ≡ true → is_passed top q ≡ true
before_passed top q p lt is = by (is_gt (path_cmp top q)) refl
  where
    greater : (o : Ordering) → is_gt o ≡ true → o ≡ Greater
    greater Less h = absurd (true≢false (sym h))
    greater Equal h = absurd (true≢false (sym h))
    greater Greater h = refl

    later : is_gt (path_cmp top q) ≡ false → (b : Bool) → is_gt (path_cmp top p) ≡ b → is_gt (path_cmp top p) ≡ false
    later start false g = g
    later start true g =
        let lower : path_cmp q top ≡ Less = path_total.trans q p top lt (below top p (greater (path_cmp top p) g)) in
        absurd (true≢false (sym (ap is_gt (above q top lower)) ∙ start))

    by : (b : Bool) → is_gt (path_cmp top q) ≡ b → is_passed top q ≡ true
    by true start = ap (λ b. b || encloses top q) start
    by false start =
        let inside : encloses top p ≡ true = ap (λ b. b || encloses top p) (sym (later start _ refl)) ∙ is in
        ap (λ b. b || encloses top q) start ∙ convex top q p start lt inside

module _ {V : Type 0} where
  keeps : (top : PathOf) (e : PathOf × V) (es : List (PathOf × V)) → is_passed top e.0 ≡ false → after top (e ∷ es) ≡ e ∷ after top es
  keeps top e es is = ap (λ b. cond (not b) (e ∷ after top es) (after top es)) is

  leaves : (top : PathOf) (e : PathOf × V) (es : List (PathOf × V)) → is_passed top e.0 ≡ true → after top (e ∷ es) ≡ after top es
  leaves top e es is = ap (λ b. cond (not b) (e ∷ after top es) (after top es)) is

  pub after-append : (top : PathOf) (l r : List (PathOf × V)) → after top (l ++ r) ≡ after top l ++ after top r
  after-append top [] r = refl
  after-append top (e ∷ l) r = elim (not (is_passed top e.0)) as (λ b. cond b (e ∷ after top (l ++ r)) (after top (l ++ r)) ≡ cond b (e ∷ after top l) (after top l) ++ after top r) [
    | true ↦ ap (λ es. e ∷ es) (after-append top l r)
    | false ↦ after-append top l r
  ]

  -- those before one that is passed
  after_none : (top : PathOf) (x : PathOf × V) (l : List (PathOf × V)) → is_passed top x.0 ≡ true → Before x.0 l → after top l ≡ []
  after_none top x [] is h = refl
  after_none top x (e ∷ l) is h = leaves top e l (before_passed top e.0 x.0 h.0 is) ∙ after_none top x l is h.1

  -- those after one that is not passed
  after_later : (top : PathOf) (x : PathOf × V) (r : List (PathOf × V)) → is_passed top x.0 ≡ false → After x.0 r → after top r ≡ r
  after_later top x [] out h = refl
  after_later top x (e ∷ r) out h = keeps top e r (by (is_passed top e.0) refl) ∙ ap (λ l. e ∷ l) (after_later top x r out h.1)
    where
      by : (b : Bool) → is_passed top e.0 ≡ b → is_passed top e.0 ≡ false
      by true is = absurd (true≢false (sym (before_passed top x.0 e.0 h.0 is) ∙ out))
      by false is = is

  pub after_all : (top : PathOf) (es : List (PathOf × V)) → IsInOrder es → (0 < length es → BeginsPassed false es top) → after top es ≡ es
  after_all top [] order begins = refl
  after_all top (e ∷ es) order begins =
      let first : is_passed top e.0 ≡ false = (begins (omega arith)).is e in
      keeps top e es first ∙ ap (λ l. e ∷ l) (after_later top e es first (later_after e es order))

  -- what is before entries that begin with one that is passed
  pub after_right : (top : PathOf) (left : List (PathOf × V)) (e : PathOf × V) (es : List (PathOf × V)) → IsInOrder (left ++ e ∷ es) → is_passed top e.0 ≡ true
      → after top (left ++ e ∷ es) ≡ after top (e ∷ es)
  after_right top left e es order is = after_append_none (after_none top e left is (before_part left e es order))
    where
      after_append_none : after top left ≡ [] → after top (left ++ e ∷ es) ≡ after top (e ∷ es)
      after_append_none none = after-append top left (e ∷ es) ∙ ap (λ l. l ++ after top (e ∷ es)) none

  -- these entries end the list
  pub after_end : (top : PathOf) (es : List (PathOf × V)) → IsInOrder es → (pre : List (PathOf × V)) × (es ≡ pre ++ after top es)
  after_end top [] h = ([], refl)
  after_end top (e ∷ es) h = by (is_passed top e.0) refl (after_end top es (and_parts (below_all path_cmp e.0 es) (is_sorted path_cmp es) h).1)
    where
      by : (b : Bool) → is_passed top e.0 ≡ b → ((pre : List (PathOf × V)) × (es ≡ pre ++ after top es)) → (pre : List (PathOf × V)) × (e ∷ es ≡ pre ++ cond (not b) (e ∷ after top es) (after top es))
      by false is more = ([], ap (λ l. e ∷ l) (sym (after_later top e es is (later_after e es h))))
      by true is more = (e ∷ more.0, ap (λ l. e ∷ l) more.1)

  before_left : (left here rest : List (PathOf × V)) (top : PathOf) → IsInOrder (left ++ (here ++ rest)) → BeginsPassed true here top → after top left ≡ []
  before_left left [] rest top h b = absurd (let some : 0 < 0 = b.some in omega arith)
  before_left left (x ∷ here) rest top h b = after_none top x left (b.is x) (before_part left x (here ++ rest) h)

-- a path that is passed has no other before it that is not
passed_parted : (top : PathOf) (ps : List PathOf) → IsInOrder (map keyed ps) → IsPartitionedBy (λ q. is_passed top q) ps
passed_parted top ps h i j d le lt is =
    elim (nat_lt i j) as (λ b. nat_lt i j ≡ b → is_passed top (get_or ps i d) ≡ true) [
      | true ↦ λ less.
          let before : i < j = omega (arith, ltb-true _ _ less) in
          let in_keys : j < length (map keyed ps) = omega (arith, lt, length-map ps keyed) in
          let at_i : get_or (map keyed ps) i (keyed d) ≡ keyed (get_or ps i d) = get_or-map keyed ps i d (keyed d) (omega arith) in
          let at_j : get_or (map keyed ps) j (keyed d) ≡ keyed (get_or ps j d) = get_or-map keyed ps j d (keyed d) lt in
          let rise : path_cmp (get_or ps i d) (get_or ps j d) ≡ Less = (λ k. path_cmp (sym at_i k).0 (sym at_j k).0) ∙ rises (map keyed ps) h i j (keyed d) before in_keys in
          before_passed top (get_or ps i d) (get_or ps j d) rise is
      | false ↦ λ less. let same : j ≡ i = omega (arith, ltb-false _ _ less) in subst (λ k. is_passed top (get_or ps k d) ≡ true) same is
    ] refl

module _ {V : Type 0} (top : PathOf) where
  -- the entries that are passed come first
  after_drop : (ps : List PathOf) (vs : List V) (n : ℕ) → length vs ≡ length ps → ((j : ℕ) (d : PathOf) → j < n → is_passed top (get_or ps j d) ≡ true)
      → ((j : ℕ) (d : PathOf) → n ≤ j → j < length ps → is_passed top (get_or ps j d) ≡ false) → after top (zip ps vs) ≡ drop n (zip ps vs)
  after_drop [] vs zero same before later = refl
  after_drop [] vs (suc n) same before later = refl
  after_drop (p ∷ ps) [] n same before later = absurd (omega arith)
  after_drop (p ∷ ps) (v ∷ vs) zero same before later =
      keeps top (p, v) (zip ps vs) (later 0 p (omega arith) (omega arith))
      ∙ ap (λ l. (p, v) ∷ l) (after_drop ps vs zero (omega arith) (λ j d lt. absurd (omega arith)) (λ j d le lt. later (suc j) d (omega arith) (omega arith)))
  after_drop (p ∷ ps) (v ∷ vs) (suc n) same before later =
      leaves top (p, v) (zip ps vs) (before 0 p (omega arith))
      ∙ after_drop ps vs n (omega arith) (λ j d lt. before (suc j) d (omega arith)) (λ j d le lt. later (suc j) d (omega arith) (omega arith))

module _ {V : Type 0} (ps : List PathOf) (vs : List V) (es : List (PathOf × V)) (same : length vs ≡ length ps) (is : zip ps vs ≡ es) (top : PathOf) where
  pub paths_passed : IsInOrder es → IsPartitionedBy (λ q. is_passed top q) ps
  paths_passed h = passed_parted top ps (keys_in_order ps vs es same is h)

  pub after_passed : (n : ℕ) → IsPartitionPoint (λ q. is_passed top q ≡ true) (λ q. is_passed top q ≡ false) ps n → after top es ≡ drop n es
  after_passed n point = subst (λ l. after top l ≡ drop n l) is (after_drop top ps vs n same (λ j d lt. point.0 j d (omega arith) lt) point.1)

module _ {A V : Type 0} (f : A → List (PathOf × V)) where
  rest_begins : (parts : List A) (top : PathOf) (n : ℕ) → ArePassed f parts top n → 0 < length (flat_map f (drop n parts)) → BeginsPassed false (flat_map f (drop n parts)) top
  rest_begins parts top n counted some = by (drop n parts) refl some
    where
      in_parts : (r : List A) → drop n parts ≡ r → 0 < length r → n < length parts
      in_parts r e lt = let is : length r ≡ length parts - n = ap length (sym e) ∙ length-drop n parts in omega arith

      begins : (es rest : List (PathOf × V)) → BeginsPassed false es top → BeginsPassed false (es ++ rest) top
      begins [] rest b = absurd (let none : 0 < 0 = b.some in omega arith)
      begins (e ∷ es) rest b = record { some = omega arith; is = λ d. b.is d }

      by : (r : List A) → drop n parts ≡ r → 0 < length (flat_map f r) → BeginsPassed false (flat_map f (drop n parts)) top
      by [] e lt = absurd (let none : 0 < 0 = lt in omega arith)
      by (c ∷ cs) e lt =
          let here : get_or parts n c ≡ c = ap (λ k. get_or parts k c) {x = n} {y = n + 0} (omega arith) ∙ sym (get_or-drop n parts 0 c) ∙ ap (λ l. get_or l 0 c) e in
          subst (λ l. BeginsPassed false l top) (sym (ap (flat_map f) e))
          (begins (f c) (flat_map f cs) (subst (λ x. BeginsPassed false (f x) top) here (counted.next c (in_parts (c ∷ cs) e (omega arith)))))

  -- where no part begins with one that is passed, all are after it
  pub after_whole : (parts : List A) (top : PathOf) → IsInOrder (flat_map f parts) → ArePassed f parts top 0 → after top (flat_map f parts) ≡ flat_map f parts
  after_whole parts top h counted = after_all top (flat_map f parts) h (rest_begins parts top 0 counted)

  -- else what is left of the last part that begins with one, and the parts after that
  pub after_part : (parts : List A) (top : PathOf) (k : ℕ) (c : A) → IsInOrder (flat_map f parts) → ArePassed f parts top (k + 1) → c ≡ get_or parts k c
      → after top (flat_map f parts) ≡ after top (f c) ++ flat_map f (drop (k + 1) parts)
  after_part parts top k c h counted is =
      let lt : k < length parts = omega (arith, counted.in_range) in
      let left = flat_map f (take k parts) in
      let rest = flat_map f (drop (k + 1) parts) in
      let whole : flat_map f parts ≡ left ++ (f c ++ rest) = around f parts k c lt ∙ ap (λ x. left ++ (f x ++ rest)) (sym is) in
      let order : IsInOrder (left ++ (f c ++ rest)) = subst IsInOrder whole h in
      let at : get_or parts (k + 1 - 1) c ≡ c = ap (λ n. get_or parts n c) (omega arith) ∙ sym is in
      let here : BeginsPassed true (f c) top = subst (λ x. BeginsPassed true (f x) top) at (counted.last c (omega arith)) in
      ap (λ es. after top es) whole
      ∙ after-append top left (f c ++ rest)
      ∙ (λ j. before_left left (f c) rest top order here j ++ after-append top (f c) rest j)
      ∙ ap (λ l. after top (f c) ++ l) (after_all top rest (in_order-right (f c) rest (in_order-right left (f c ++ rest) order)) (rest_begins parts top (k + 1) counted))
