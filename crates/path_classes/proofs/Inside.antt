-- Paths whose classes are among some, at or below some paths.
use Rattle.std.proofs.Common.{◌≡◌, ℕ, zero, suc, ◌<◌, Bool, true, false, ◌||◌, List, [], ◌∷◌, ◌++◌, length, get_or, Option, Some, None, refl, sym, ap, subst, ◌∙◌, arith}
use Rattle.std.proofs.Math.Dec.{eqb→eq, eqb_refl}
use Rattle.std.specs.Prelude.{◌==◌, option_map, if◌then◌else◌}
use Rattle.std.specs.List.{AllByRecursion}
use Rattle.std.specs.Option.{option_or}
use Rattle.std.proofs.lemmas.List.Folds.{list_any-append}
use Rattle.acl_names.specs.Paths.{PathOf}
use Rattle.acl_names.specs.Below.{is_above}
use Rattle.acl_names.proofs.Basics.{to_T, from_T}
use Rattle.acl_names.proofs.Below.{below_within}
use Rattle.path_map.specs.Below.{nearest_above}
use Rattle.kinds.specs.Kinds.{KindsOf, node_at}
use Rattle.kinds.specs.Numbered.{Kept, Numbers}
use Rattle.kinds.proofs.EntriesBy.{all_weaker}
use Rattle.path_classes.specs.declared.label_row.LabelRow.{LabelRow}
use Rattle.path_classes.specs.declared.path_class.PathClass.{PathClass}
use Rattle.path_classes.specs.ClassesWithin.{is_inside}
use Rattle.path_classes.specs.PathClasses.{ClassKinds, class_above}
use Rattle.path_classes.specs.ClassedRows.{AllInside}
use Rattle.path_classes.specs.Renewing.{is_one, IsBelow, HasLinked, HaveLinked, RenewsOne}
use Rattle.path_classes.proofs.Growing.{some_is}
use Rattle.path_classes.proofs.Tops.{inside_below, nearest_is}

-- ---- numbers among others

-- what holds of each of some numbers
one_of : (P : ℕ → Type 0) (n : ℕ) (ns : List ℕ) → AllByRecursion P ns → is_one n ns ≡ true → P n
one_of P n [] h one = cc
one_of P n (m ∷ ns) h one = by (m == n) refl one (one_of P n ns h.1)
  where
    by : (b : Bool) → (m == n) ≡ b → (b || is_one n ns) ≡ true → (is_one n ns ≡ true → P n) → P n
    by true same one more = subst P (eqb→eq m n (to_T (m == n) same)) h.0
    by false apart one more = more one

pub one_at : (ns : List ℕ) (i d : ℕ) → i < length ns → is_one (get_or ns i d) ns ≡ true
one_at [] i d lt = absurd (omega (arith, lt))
one_at (n ∷ ns) zero d lt = ap (λ b. b || is_one n ns) (from_T (n == n) (eqb_refl n))
one_at (n ∷ ns) (suc i) d lt = or_true (n == get_or ns i d) (one_at ns i d (omega (arith, lt)))
  where
    or_true : (b : Bool) {c : Bool} → c ≡ true → (b || c) ≡ true
    or_true true h = refl
    or_true false h = h

module _ (tops : List PathOf) where
  -- numbers each of which is among some or among others
  pub inside_both : (xs ys zs : List ℕ) → ((m : ℕ) → is_one m xs ≡ true → (is_one m ys || is_one m zs) ≡ true) → (es : Numbers)
      → AllInside ys tops es → AllInside zs tops es → AllInside xs tops es
  inside_both xs ys zs split [] h k = tt
  inside_both xs ys zs split (e ∷ es) h k = ((λ one. by (is_one e.1 ys) refl (split e.1 one)), inside_both xs ys zs split es h.1 k.1)
    where
      by : (b : Bool) → is_one e.1 ys ≡ b → (b || is_one e.1 zs) ≡ true → is_inside tops e.0 ≡ true
      by true is one = h.0 is
      by false is one = k.0 one

  -- the nearest above a path is one of some that lie inside
  module _ (numbers : List ℕ) (es : Numbers) (all : AllInside numbers tops es) (p : PathOf) (a : ℕ) (up : class_above p es ≡ Some a) (one : is_one a numbers ≡ true) where
    nearest_over : (fs : Numbers) (r : PathOf × ℕ) → nearest_above p fs ≡ Some r → is_above r.0 p ≡ true
    nearest_over [] r is = cc
    nearest_over (e ∷ fs) r is = by (nearest_above p fs) refl (is_above e.0 p) refl is (nearest_over fs r)
      where
        by : (o : Option (PathOf × ℕ)) → nearest_above p fs ≡ o → (b : Bool) → is_above e.0 p ≡ b → option_or o (if b then Some e else None) ≡ Some r
            → (nearest_above p fs ≡ Some r → is_above r.0 p ≡ true) → is_above r.0 p ≡ true
        by (Some f) at b is k more = more (at ∙ k)
        by None at true is k more = let same : e ≡ r = cc in subst (λ (q : PathOf × ℕ). is_above q.0 p ≡ true) same is
        by None at false is k more = cc

    pub nearest_inside : (r : PathOf × ℕ) × ((is_inside tops r.0 ≡ true) × (is_above r.0 p ≡ true))
    nearest_inside = by (nearest_above p es) refl
      where
        by : (o : Option (PathOf × ℕ)) → nearest_above p es ≡ o → (r : PathOf × ℕ) × ((is_inside tops r.0 ≡ true) × (is_above r.0 p ≡ true))
        by None is = let no : None ≡ Some a = sym (ap (option_map (λ (e : PathOf × ℕ). e.1)) is) ∙ up in cc
        by (Some r) is =
            let same : Some r.1 ≡ Some a = sym (ap (option_map (λ (e : PathOf × ℕ). e.1)) is) ∙ up in
            let number : r.1 ≡ a = cc in
            (r, (nearest_is (λ (e : PathOf × ℕ). is_one e.1 numbers ≡ true → is_inside tops e.0 ≡ true) p es r all is (ap (λ n. is_one n numbers) number ∙ one), nearest_over es r is))

    -- so the path lies inside
    pub above_inside : is_inside tops p ≡ true
    above_inside = let r = nearest_inside in inside_below tops r.0.0 p r.1.0 (below_within r.0.0 p r.1.1)

-- ---- classes right below those whose paths lie inside

module _ (rows : KindsOf LabelRow) (classes : Kept PathClass) (each : HaveLinked rows classes) (tops : List PathOf) where
  below_inside : (n : ℕ) (numbers : List ℕ) → is_one n numbers ≡ true → AllInside numbers tops classes.1 → (below : List ℕ) → AllByRecursion (IsBelow classes.0 n) below
      → AllInside below tops classes.1
  below_inside n numbers one all below are =
      all_weaker (HasLinked rows classes.0 classes.1) (λ (e : PathOf × ℕ). is_one e.1 below ≡ true → is_inside tops e.0 ≡ true) step classes.1 each
    where
      step : (e : PathOf × ℕ) → HasLinked rows classes.0 classes.1 e → is_one e.1 below ≡ true → is_inside tops e.0 ≡ true
      step e g among =
          let b = one_of (IsBelow classes.0 n) e.1 below are among in
          let same : g.class ≡ b.1.0 = some_is (node_at classes.0 e.1) g.class b.1.0 g.is b.1.1.0 in
          let up : class_above e.0 classes.1 ≡ Some n = sym g.above ∙ ap (λ (c : PathClass). c.above) same ∙ b.1.1.1 in
          above_inside tops numbers classes.1 all e.0 n up one

  -- one class more is made again
  pub step_inside : (old new : ClassKinds) (waiting changed more noted : List ℕ) (at n : ℕ) → at < length waiting → n ≡ get_or waiting at n
      → RenewsOne rows classes.0 old n waiting changed more noted new
      → AllInside waiting tops classes.1 × AllInside changed tops classes.1
      → AllInside more tops classes.1 × AllInside noted tops classes.1
  step_inside old new waiting changed more noted at n lt is r h =
      let one : is_one n waiting ≡ true = ap (λ m. is_one m waiting) is ∙ one_at waiting at n lt in (
        subst (λ l. AllInside l tops classes.1) (sym r.pushed)
            (inside_both tops (waiting ++ r.below) waiting r.below (λ m one. sym (list_any-append (λ i. i == m) waiting r.below) ∙ one) classes.1 h.0 (below_inside n waiting one h.0 r.below r.are)),
        inside_both tops noted waiting changed (λ m among. first one m (n == m) refl (r.noted m among)) classes.1 h.0 h.1,
      )
    where
      first : is_one n waiting ≡ true → (m : ℕ) (b : Bool) → (n == m) ≡ b → (b || is_one m changed) ≡ true → (is_one m waiting || is_one m changed) ≡ true
      first one m true same h = ap (λ b. b || is_one m changed) (ap (λ i. is_one i waiting) (sym (eqb→eq n m (to_T (n == m) same))) ∙ one)
      first one m false apart h = by (is_one m waiting)
        where
          by : (b : Bool) → (b || is_one m changed) ≡ true
          by true = refl
          by false = h
