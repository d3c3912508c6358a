-- The tops among the paths of two lists.
use Rattle.std.proofs.Common.{◌≡◌, IsTrue, ℕ, zero, suc, ◌+◌, ◌<◌, ◌≤◌, Bool, true, false, ◌||◌, List, [], ◌∷◌, ◌++◌, map, drop, length, get_or, Ordering, Less}
use Rattle.std.proofs.Common.{Equal, Greater, Some, refl, sym, ap, subst, ◌∙◌, arith}
use Rattle.std.specs.Borrow.{Bor}
use Rattle.std.specs.Prelude.{if◌then◌else◌}
use Rattle.std.specs.List.{AllByRecursion}
use Rattle.std.specs.Option.{option_map_or}
use Rattle.std.specs.Ordering.{is_gt, is_lt}
use Rattle.std.specs.FinMap.{is_sorted}
use Rattle.std.specs.FinMap.Entries.{below_all}
use Rattle.std.proofs.lemmas.Bool.{and_parts}
use Rattle.std.proofs.lemmas.Cmp.{tied_itself}
use Rattle.std.proofs.lemmas.List.{map-append}
use Rattle.std.proofs.lemmas.List.Folds.{list_any-append}
use Rattle.acl_names.specs.Paths.{path_cmp, PathOf}
use Rattle.acl_names.specs.Below.{encloses}
use Rattle.acl_names.proofs.PathOrder.{path_total, exact_paths}
use Rattle.acl_names.proofs.Basics.{all_end, is_less}
use Rattle.path_map.specs.Entries.{IsInOrder, seen}
use Rattle.path_map.specs.Below.{is_passed}
use Rattle.path_map.proofs.Places.{below}
use Rattle.path_classes.specs.ClassesWithin.{paths_seen, is_inside, AreTops}
use Rattle.path_classes.specs.ClassedRows.{paths_of}
use Rattle.path_classes.specs.Tops.{NotAfter, AreNotAfter, AreBefore, is_in_two, IsNext, last_path, is_in_last, AddsTop, AreTaken}
use Rattle.path_classes.proofs.Tops.{inside_below, beyond}
use Rattle.path_classes.proofs.FoundWithin.{all_mapped}

or_false : (b : Bool) → (b || false) ≡ b
or_false true = refl
or_false false = refl

or_assoc : (a b c : Bool) → ((a || b) || c) ≡ (a || (b || c))
or_assoc true b c = refl
or_assoc false b c = refl

or_swap : (a b c : Bool) → (a || (b || c)) ≡ (b || (a || c))
or_swap true true c = refl
or_swap true false c = refl
or_swap false b c = refl

-- ---- path order

not_after : (s p q : PathOf) → is_gt (path_cmp s p) ≡ false → path_cmp p q ≡ Less → is_gt (path_cmp s q) ≡ false
not_after s p q h lt = by (path_cmp s p) refl h
  where
    by : (o : Ordering) → path_cmp s p ≡ o → is_gt o ≡ false → is_gt (path_cmp s q) ≡ false
    by Less is g = ap is_gt (path_total.trans s p q is lt)
    by Equal is g = ap (λ z. is_gt (path_cmp z q)) (exact_paths s p is) ∙ ap is_gt lt
    by Greater is g = cc

not_less : (p q : PathOf) → is_lt (path_cmp q p) ≡ false → is_gt (path_cmp p q) ≡ false
not_less p q h = by (path_cmp p q) refl
  where
    by : (o : Ordering) → path_cmp p q ≡ o → is_gt o ≡ false
    by Less is = refl
    by Equal is = refl
    by Greater is = let no : true ≡ false = sym (ap is_lt (below p q is)) ∙ h in cc

module _ {V : Type 0} where
  all_after : (s p : PathOf) (es : List (PathOf × V)) → is_gt (path_cmp s p) ≡ false → IsTrue (below_all path_cmp p es) → NotAfter s es
  all_after s p [] h b = tt
  all_after s p (e ∷ es) h b =
      let parts = and_parts (is_lt (path_cmp p e.0)) (below_all path_cmp p es) b in
      (not_after s p e.0 h (is_less (path_cmp p e.0) parts.0), all_after s p es h parts.1)

  parts_of : (e : PathOf × V) (es : List (PathOf × V)) → IsInOrder (e ∷ es) → IsTrue (below_all path_cmp e.0 es) × IsInOrder es
  parts_of e es order = and_parts (below_all path_cmp e.0 es) (is_sorted path_cmp es) order

  first_after : (s : PathOf) (e : PathOf × V) (es : List (PathOf × V)) → IsInOrder (e ∷ es) → is_gt (path_cmp s e.0) ≡ false → NotAfter s (e ∷ es)
  first_after s e es order h = (h, all_after s e.0 es h (parts_of e es order).0)

-- ---- the first path of two lists

itself : (p : PathOf) → is_gt (path_cmp p p) ≡ false
itself p = ap is_gt (tied_itself path_total p)

module _ {V W : Type 0} where
  pub first_next : (e : PathOf × V) (left : List (PathOf × V)) (fs : List (PathOf × W)) → (IsInOrder fs → NotAfter e.0 fs) → IsNext (e ∷ left) fs e.0 left fs
  first_next e left fs before = record {
    covers = λ q. or_assoc (encloses e.0 q) (is_inside (paths_of left) q) (is_inside (paths_of fs) q);
    order = λ o u. ((parts_of e left o).1, u);
    ahead = λ o u. (all_after e.0 e.0 left (itself e.0) (parts_of e left o).0, before u);
    here = λ s h k. h.0;
    still = λ s h k. (h.1, k);
    fewer = omega arith;
  }

  pub second_next : (es : List (PathOf × V)) (f : PathOf × W) (rest : List (PathOf × W)) → (IsInOrder es → NotAfter f.0 es) → IsNext es (f ∷ rest) f.0 es rest
  second_next es f rest before = record {
    covers = λ q. or_swap (is_inside (paths_of es) q) (encloses f.0 q) (is_inside (paths_of rest) q);
    order = λ o u. (o, (parts_of f rest u).1);
    ahead = λ o u. (before o, all_after f.0 f.0 rest (itself f.0) (parts_of f rest u).0);
    here = λ s h k. k.0;
    still = λ s h k. (h, k.1);
    fewer = omega arith;
  }

  -- of two paths the one that is not after the other
  pub first_of_two : (e : PathOf × V) (left : List (PathOf × V)) (f : PathOf × W) (rest : List (PathOf × W)) → is_lt (path_cmp f.0 e.0) ≡ false → IsNext (e ∷ left) (f ∷ rest) e.0 left (f ∷ rest)
  first_of_two e left f rest h = first_next e left (f ∷ rest) (λ o. first_after e.0 f rest o (not_less e.0 f.0 h))

  pub second_of_two : (e : PathOf × V) (left : List (PathOf × V)) (f : PathOf × W) (rest : List (PathOf × W)) → is_lt (path_cmp f.0 e.0) ≡ true → IsNext (e ∷ left) (f ∷ rest) f.0 (e ∷ left) rest
  second_of_two e left f rest h = second_next (e ∷ left) f rest (λ o. first_after f.0 e left o (by (path_cmp f.0 e.0) refl h))
    where
      by : (o : Ordering) → path_cmp f.0 e.0 ≡ o → is_lt o ≡ true → is_gt (path_cmp f.0 e.0) ≡ false
      by Less is k = ap is_gt is
      by Equal is k = ap is_gt is
      by Greater is k = cc

-- ---- one top more

last_end : (ts : List PathOf) (t : PathOf) → last_path (ts ++ t ∷ []) ≡ Some t
last_end [] t = refl
last_end (s ∷ []) t = refl
last_end (s ∷ r ∷ ts) t = last_end (r ∷ ts) t

pub in_last : (xs before : List (Bor PathOf)) (x : Bor PathOf) (p : PathOf) → xs ≡ before ++ x ∷ [] → encloses x.now p ≡ is_in_last (paths_seen xs) p
in_last xs before x p is =
    sym (ap (λ o. option_map_or (λ t. encloses t p) o false)
    (ap (λ (l : List (Bor PathOf)). last_path (paths_seen l)) is ∙ ap last_path (map-append (λ (p : Bor PathOf). p.now) before (x ∷ [])) ∙ last_end (paths_seen before) x.now))

last_inside : (ts : List PathOf) (p : PathOf) → is_in_last ts p ≡ true → is_inside ts p ≡ true
last_inside [] p h = cc
last_inside (t ∷ []) p h = ap (λ b. b || false) h
last_inside (t ∷ s ∷ ts) p h = ap (λ b. encloses t p || b) (last_inside (s ∷ ts) p h) ∙ or_true (encloses t p)
  where
    or_true : (b : Bool) → (b || true) ≡ true
    or_true true = refl
    or_true false = refl

none_encloses : (ts : List PathOf) (p : PathOf) → AreTops ts → AreBefore ts p → is_in_last ts p ≡ false → AllByRecursion (λ s. is_passed s p ≡ false) ts
none_encloses [] p tops before h = tt
none_encloses (t ∷ []) p tops before h = ((λ i. before.0 i || h i), tt)
none_encloses (t ∷ s ∷ ts) p tops before h = ((λ i. before.0 i || beyond t s p tops.0.0 before.1.0 i), none_encloses (s ∷ ts) p tops.1 before.1 h)

tops_more : (ts : List PathOf) (p : PathOf) → AreTops ts → AllByRecursion (λ s. is_passed s p ≡ false) ts → AreTops (ts ++ p ∷ [])
tops_more [] p tops h = (tt, tt)
tops_more (t ∷ ts) p tops h = (all_end (λ s. is_passed t s ≡ false) ts p tops.0 h.0, tops_more ts p tops.1 h.1)

pub adds_new : (ts new : List PathOf) (p : PathOf) → AreTops ts → AreBefore ts p → is_in_last ts p ≡ false → new ≡ ts ++ p ∷ [] → AddsTop ts p new
adds_new ts new p tops before h is = record {
  are_tops = subst AreTops (sym is) (tops_more ts p tops (none_encloses ts p tops before h));
  covers = λ q. ap (λ l. is_inside l q) is ∙ list_any-append (λ t. encloses t q) ts (p ∷ []) ∙ ap (λ b. is_inside ts q || b) (or_false (encloses p q));
  added = true;
  are = is;
}

pub adds_none : (ts : List PathOf) (p : PathOf) → AreTops ts → is_in_last ts p ≡ true → AddsTop ts p ts
adds_none ts p tops h = record { are_tops = tops; covers = λ q. by q (encloses p q) refl; added = false; are = refl }
  where
    same : (b : Bool) → b ≡ (b || false)
    same true = refl
    same false = refl

    by : (q : PathOf) (b : Bool) → encloses p q ≡ b → is_inside ts q ≡ (is_inside ts q || b)
    by q false is = same (is_inside ts q)
    by q true is = let yes : is_inside ts q ≡ true = inside_below ts p q (last_inside ts p h) is in yes ∙ ap (λ b. b || true) (sym yes)

-- ---- what is left of a list

drop_cons : {A : Type 0} (xs : List A) (i : ℕ) (x : A) → i < length xs → x ≡ get_or xs i x → drop i xs ≡ x ∷ drop (suc i) xs
drop_cons [] i x lt is = absurd (omega (arith, lt))
drop_cons (y ∷ xs) zero x lt is = ap (λ z. z ∷ xs) (sym is)
drop_cons (y ∷ xs) (suc i) x lt is = drop_cons xs i x (omega (arith, lt)) is

-- an item that was looked up, and what is left after it
abbrev pub IsItem : {A : Type 0} → List A → ℕ → A → Type 0
IsItem xs i x = (i < length xs) × (x ≡ get_or xs i x)

drop_some : {A : Type 0} (xs : List A) (i : ℕ) (x : A) → IsItem xs i x → drop i xs ≡ x ∷ drop (i + 1) xs
drop_some xs i x is = let next : suc i ≡ i + 1 = omega arith in drop_cons xs i x is.0 is.1 ∙ ap (λ k. x ∷ drop k xs) next

drop_none : {A : Type 0} (xs : List A) (i : ℕ) → length xs ≤ i → drop i xs ≡ []
drop_none [] zero le = refl
drop_none [] (suc i) le = refl
drop_none (y ∷ xs) zero le = absurd (omega (arith, le))
drop_none (y ∷ xs) (suc i) le = drop_none xs i (omega (arith, le))

module _ {V W : Type 0} (changed : List (Bor PathOf × V)) (gone : List (Bor PathOf × W)) (i j : ℕ) where
  abbrev pub Next : PathOf → ℕ → ℕ → Type 0
  Next p k l = IsNext (map seen (drop i changed)) (map seen (drop j gone)) p (map seen (drop k changed)) (map seen (drop l gone))

  module _ (e : Bor PathOf × V) (has : IsItem changed i e) where
    -- the first list alone is left
    pub next_first : length gone ≤ j → Next e.0.now (i + 1) j
    next_first none =
        subst (λ (l : List (Bor PathOf × V)). IsNext (map seen l) (map seen (drop j gone)) e.0.now (map seen (drop (i + 1) changed)) (map seen (drop j gone))) (sym (drop_some changed i e has))
        (first_next (seen e) (map seen (drop (i + 1) changed)) (map seen (drop j gone)) (λ o. subst (λ (l : List (Bor PathOf × W)). NotAfter e.0.now (map seen l)) (sym (drop_none gone j none)) tt))

    -- both are left
    module _ (f : Bor PathOf × W) (has_other : IsItem gone j f) where
      both : (p : PathOf) (k l : ℕ) → IsNext (seen e ∷ map seen (drop (i + 1) changed)) (seen f ∷ map seen (drop (j + 1) gone)) p (map seen (drop k changed)) (map seen (drop l gone)) → Next p k l
      both p k l n =
          subst (λ (xs : List (Bor PathOf × V)). IsNext (map seen xs) (map seen (drop j gone)) p (map seen (drop k changed)) (map seen (drop l gone))) (sym (drop_some changed i e has))
          (subst (λ (xs : List (Bor PathOf × W)). IsNext (seen e ∷ map seen (drop (i + 1) changed)) (map seen xs) p (map seen (drop k changed))
          (map seen (drop l gone))) (sym (drop_some gone j f has_other)) n)

      pub next_less : is_lt (path_cmp f.0.now e.0.now) ≡ true → Next f.0.now i (j + 1)
      next_less less =
          both f.0.now i (j + 1)
          (subst (λ (xs : List (Bor PathOf × V)). IsNext (seen e ∷ map seen (drop (i + 1) changed)) (seen f ∷ map seen (drop (j + 1) gone)) f.0.now (map seen xs) (map seen (drop (j + 1) gone)))
          (sym (drop_some changed i e has))
          (second_of_two (seen e) (map seen (drop (i + 1) changed)) (seen f) (map seen (drop (j + 1) gone)) less))

      pub next_other : is_lt (path_cmp f.0.now e.0.now) ≡ false → Next e.0.now (i + 1) j
      next_other not_less =
          both e.0.now (i + 1) j
          (subst (λ (xs : List (Bor PathOf × W)). IsNext (seen e ∷ map seen (drop (i + 1) changed)) (seen f ∷ map seen (drop (j + 1) gone)) e.0.now (map seen (drop (i + 1) changed)) (map seen xs))
          (sym (drop_some gone j f has_other))
          (first_of_two (seen e) (map seen (drop (i + 1) changed)) (seen f) (map seen (drop (j + 1) gone)) not_less))

  -- the second list alone is left
  pub next_second : length changed ≤ i → (f : Bor PathOf × W) → IsItem gone j f → Next f.0.now i (j + 1)
  next_second none f has =
      subst (λ (l : List (Bor PathOf × W)). IsNext (map seen (drop i changed)) (map seen l) f.0.now (map seen (drop i changed)) (map seen (drop (j + 1) gone))) (sym (drop_some gone j f has))
      (second_next (map seen (drop i changed)) (seen f) (map seen (drop (j + 1) gone)) (λ o. subst (λ (l : List (Bor PathOf × V)). NotAfter f.0.now (map seen l)) (sym (drop_none changed i none)) tt))

-- ---- the loop

module _ {V W : Type 0} (all es : List (PathOf × V)) (others fs : List (PathOf × W)) (tops : List PathOf) (w : AreTaken all others es fs tops) where
  module _ (p : PathOf) (left : List (PathOf × V)) (rest : List (PathOf × W)) (n : IsNext es fs p left rest) where
    pub taken_before : AreBefore tops p
    taken_before = all_mapped (λ s. NotAfter s es × NotAfter s fs) (λ s. is_gt (path_cmp s p) ≡ false) (λ s h. n.here s h.0 h.1) tops w.ahead

    still : AreNotAfter left rest tops
    still = all_mapped (λ s. NotAfter s es × NotAfter s fs) (λ s. NotAfter s left × NotAfter s rest) (λ s h. n.still s h.0 h.1) tops w.ahead

    pub taken_more : (new : List PathOf) → AddsTop tops p new → AreTaken all others left rest new
    taken_more new a = record {
      are_tops = a.are_tops;
      covers = λ q.
          ap (λ b. b || is_in_two left rest q) (a.covers q)
          ∙ or_assoc (is_inside tops q) (encloses p q) (is_in_two left rest q)
          ∙ ap (λ b. is_inside tops q || b) (sym (n.covers q))
          ∙ w.covers q;
      order = n.order w.order.0 w.order.1;
      ahead = subst (AreNotAfter left rest) (sym a.are) (by a.added);
    }
      where
        by : (b : Bool) → AreNotAfter left rest (if b then tops ++ p ∷ [] else tops)
        by false = still
        by true = all_end (λ s. NotAfter s left × NotAfter s rest) tops p still (n.ahead w.order.0 w.order.1)
