-- What is left where all at a path and below it is passed over.
use Rattle.std.proofs.Common.{◌≡◌, ℕ, Bool, true, false, not, ◌||◌, cond, List, [], ◌∷◌, ◌++◌, filter, Some, refl, sym, ap, subst, ◌∙◌, true≢false}
use Rattle.std.specs.FinMap.{is_sorted, find}
use Rattle.std.specs.FinMap.Entries.{below_all}
use Rattle.std.specs.Ordering.{is_gt}
use Rattle.std.proofs.lemmas.Bool.{and_parts}
use Rattle.acl_names.specs.Paths.{path_cmp, PathOf}
use Rattle.acl_names.specs.Below.{encloses}
use Rattle.acl_names.proofs.Below.{convex}
use Rattle.acl_names.proofs.Basics.{not_gt}
use Rattle.acl_edit.specs.declared.node.Node.{Node}
use Rattle.path_map.specs.Below.{is_passed, after}
use Rattle.path_map.specs.Inner.{From, After, IsEndOf}
use Rattle.path_map.proofs.Merges.{later_after, from_after}
use Rattle.path_map.proofs.Passed.{after_right, after_end}
use Rattle.kinds.specs.Kinds.{KindsOf, node_at}
use Rattle.kinds.specs.Numbered.{Numbers, entries_by, AreUsed}
use Rattle.kinds.proofs.EntriesBy.{entry_first}
use Rattle.kinds.proofs.Chosen.{entries_filter, used_filter}
use Rattle.acl_tree.specs.Files.{Files}
use Rattle.path_map.specs.Entries.{IsInOrder}
use Rattle.acl_tree.specs.Changed.{differs, differing, outside}
use Rattle.acl_tree.specs.Operands.{is_file, files_meant}
use Rattle.acl_tree.specs.Inner.{IsTaken}
use Rattle.acl_tree.proofs.Selected.{Head}

-- two tests in turn
swapped : {A : Type 0} (f g : A → Bool) (xs : List A) → filter f (filter g xs) ≡ filter g (filter f xs)
swapped f g [] = refl
swapped {A = A} f g (x ∷ xs) = by (swapped f g xs) (f x) refl (g x) refl
  where
    fs : List A
    fs = filter f xs

    gs : List A
    gs = filter g xs

    by : filter f gs ≡ filter g fs → (b : Bool) → f x ≡ b → (c : Bool) → g x ≡ c → filter f (cond c (x ∷ gs) gs) ≡ filter g (cond b (x ∷ fs) fs)
    by more true h true k = ap (λ z. cond z (x ∷ filter f gs) (filter f gs)) h ∙ ap (λ l. x ∷ l) more ∙ sym (ap (λ z. cond z (x ∷ filter g fs) (filter g fs)) k)
    by more true h false k = more ∙ sym (ap (λ z. cond z (x ∷ filter g fs) (filter g fs)) k)
    by more false h true k = ap (λ z. cond z (x ∷ filter f gs) (filter f gs)) h ∙ more
    by more false h false k = more

module _ {V : Type 0} where
  -- where none is before a path
  after_is : (top : PathOf) (es : List (PathOf × V)) → From top es → after top es ≡ outside top es
  after_is top [] f = refl
  after_is top (e ∷ es) f = λ i. cond (not (not_gt _ f.0 i || encloses top e.0)) (e ∷ after_is top es f.1 i) (after_is top es f.1 i)

  -- where the first is not within it, none is
  none_later : (top q : PathOf) (es : List (PathOf × V)) → is_gt (path_cmp top q) ≡ false → encloses top q ≡ false → After q es → outside top es ≡ es
  none_later top q [] le out h = refl
  none_later top q (e ∷ es) le out h = λ i. cond (not (by (encloses top e.0) refl i)) (e ∷ none_later top q es le out h.1 i) (none_later top q es le out h.1 i)
    where
      by : (b : Bool) → encloses top e.0 ≡ b → encloses top e.0 ≡ false
      by true is = absurd (true≢false (sym (convex top q e.0 le h.0 is) ∙ out))
      by false is = is

  pub nothing_within : (top p : PathOf) (rest : List (PathOf × V)) (head : Head p rest) → IsInOrder rest → From top rest → encloses top p ≡ false → outside top rest ≡ rest
  nothing_within top p rest head order starts out =
      let e = head.entry in
      let here : IsInOrder (e ∷ head.more) = subst IsInOrder head.is order in
      let from : From top (e ∷ head.more) = subst (From top) head.is starts in
      let first_out : encloses top e.0 ≡ false = ap (encloses top) head.path ∙ out in
      ap (outside top) head.is
      ∙ (λ i. cond (not (first_out i)) (e ∷ none_later top e.0 head.more (not_gt _ from.0) first_out (later_after e head.more here) i)
      (none_later top e.0 head.more (not_gt _ from.0) first_out (later_after e head.more here) i))
      ∙ sym head.is

  -- else they are found by search in the whole map
  pub found_outside : (top p : PathOf) (all rest : List (PathOf × V)) (head : Head p rest) → IsInOrder all → IsEndOf rest all → From top rest → encloses top p ≡ true → after top all ≡ outside top rest
  found_outside top p all rest head order end starts inside =
      let e = head.entry in
      let whole : end.before ++ e ∷ head.more ≡ all = ap (λ l. end.before ++ l) (sym head.is) ∙ end.joined in
      let passes : is_passed top e.0 ≡ true = or_true (is_gt (path_cmp top e.0)) (ap (encloses top) head.path ∙ inside) in
      ap (after top) (sym whole)
      ∙ after_right top end.before e head.more (subst IsInOrder (sym whole) order) passes
      ∙ ap (after top) (sym head.is)
      ∙ after_is top rest starts
    where
      or_true : (b : Bool) {c : Bool} → c ≡ true → (b || c) ≡ true
      or_true true h = refl
      or_true false h = h

  pub end_outside : (top : PathOf) (es : List (PathOf × V)) → IsInOrder es → IsEndOf (after top es) es
  end_outside top es order = let end = after_end top es order in record { before = end.0; joined = sym end.1 }

  -- what operands mean of what is left
  pub meant_outside : (b : Bool) (ops : List PathOf) (top : PathOf) (rest new : List (PathOf × V)) (seen : List (PathOf × V) × List (PathOf × V))
      → ◌≡◌ {A = List (PathOf × V) × List (PathOf × V)} (files_meant b ops rest, rest) seen → new ≡ outside top rest
      → ◌≡◌ {A = List (PathOf × V) × List (PathOf × V)} (files_meant b ops new, new) (outside top seen.0, outside top seen.1)
  meant_outside b ops top rest new seen view is =
      (λ i. (files_meant b ops (is i), is i))
      ∙ (λ i. (swapped (λ (e : PathOf × V). is_file b ops e.0) (λ (e : PathOf × V). not (encloses top e.0)) rest i, outside top rest))
      ∙ ap (λ (s : List (PathOf × V) × List (PathOf × V)). (outside top s.0, outside top s.1)) view

  in_order-later : (pre es : List (PathOf × V)) → IsInOrder (pre ++ es) → IsInOrder es
  in_order-later [] es order = order
  in_order-later (x ∷ pre) es order = in_order-later pre es (and_parts _ _ order).1

  pub order_left : (rest all : List (PathOf × V)) → IsInOrder all → IsEndOf rest all → IsInOrder rest
  order_left rest all order end = in_order-later end.before rest (subst IsInOrder (sym end.joined) order)

-- those after one that is taken
pub taken_order : (e : PathOf × ℕ) (old new : Numbers) → IsInOrder old → IsTaken e old new → IsInOrder new
taken_order e old new order t = (and_parts (below_all path_cmp e.0 new) (is_sorted path_cmp new) (in_order-later t.before (e ∷ new) (subst IsInOrder t.joined order))).1

pub taken_from : (e : PathOf × ℕ) (old new : Numbers) → IsInOrder old → IsTaken e old new → From e.0 new
taken_from e old new order t = from_after e.0 new (later_after e new (in_order-later t.before (e ∷ new) (subst IsInOrder t.joined order)))

-- the files of what is left
pub differing_outside : (b : Bool) (other : Files) (k : KindsOf Node) (top : PathOf) (ns : Numbers) → AreUsed k ns
    → differing b other (entries_by k (outside top ns)) ≡ outside top (differing b other (entries_by k ns))
differing_outside b other k top ns used =
    ap (differing b other) (entries_filter k (λ p. not (encloses top p)) ns used)
    ∙ swapped (λ (e : PathOf × Node). differs b (find path_cmp e.0 other) e.1) (λ (e : PathOf × Node). not (encloses top e.0)) (entries_by k ns)

pub used_outside : (k : KindsOf Node) (top : PathOf) (ns : Numbers) → AreUsed k ns → AreUsed k (outside top ns)
used_outside k top ns used = used_filter k (λ p. not (encloses top p)) ns used

-- a file that is the same in the other state is no difference
pub differing_passed : (b : Bool) (other : Files) (k : KindsOf Node) (e : PathOf × ℕ) (old new : Numbers) (x : Node) → old ≡ e ∷ new → node_at k e.1 ≡ Some x
    → differs b (find path_cmp e.0 other) x ≡ false
    → differing b other (entries_by k new) ≡ differing b other (entries_by k old)
differing_passed b other k e old new x is at out =
    let left = differing b other (entries_by k new) in
    sym (ap (λ (ns : Numbers). differing b other (entries_by k ns)) is ∙ ap (differing b other) (entry_first k e new x at) ∙ ap (λ c. cond c ((e.0, x) ∷ left) left) out)
