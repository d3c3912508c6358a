-- The files that operands in path order mean.
use Rattle.std.proofs.Common.{◌≡◌, ◌≢◌, ℕ, suc, ◌<◌, ◌≤◌, arith, length, get_or, Bool, true, false, not, cond, ◌||◌, List, [], ◌∷◌, ◌++◌, filter, Some, None}
use Rattle.std.proofs.Common.{Ordering, Less, Equal, Greater, refl, sym, ap, subst, ◌∙◌, append_assoc, true≢false}
use Rattle.std.specs.Prelude.{Option, option_map}
use Rattle.std.specs.Option.{option_map_or}
use Rattle.std.specs.List.Sorted.{IsSortedBy}
use Rattle.std.specs.Ordering.{is_eq, is_gt, is_lt, eq_by_cmp}
use Rattle.std.proofs.lemmas.Bool.{and_parts}
use Rattle.std.proofs.lemmas.Cmp.{tied_itself}
use Rattle.acl_names.specs.Paths.{path_cmp, PathOf}
use Rattle.acl_names.proofs.PathOrder.{path_total, exact_paths}
use Rattle.acl_edit.specs.declared.node.Node.{Node}
use Rattle.path_map.specs.Below.{from, holds_below}
use Rattle.path_map.specs.Entries.{first, IsInOrder}
use Rattle.path_map.specs.Inner.{After, IsEndOf}
use Rattle.acl_names.proofs.Below.{convex, not_before}
use Rattle.path_map.proofs.Merges.{before_from, before_later, before_part, later_after}
use Rattle.path_map.proofs.Places.{above, below}
use Rattle.path_map.proofs.Ranges.{from-append, from_none, from_end}
use Rattle.kinds.specs.Kinds.{KindsOf, node_at}
use Rattle.kinds.specs.Numbered.{Numbers, entries_by, AreUsed}
use Rattle.kinds.proofs.EntriesBy.{entry_first, entries_append}
use Rattle.acl_tree.specs.Files.{Files}
use Rattle.acl_names.specs.Below.{encloses, is_above}
use Rattle.acl_names.proofs.Basics.{is_equal, equal_is_not_greater, less_is_not_greater, not_gt, is_greater}
use Rattle.acl_tree.specs.Operands.{means, is_file, files_meant}
use Rattle.acl_tree.specs.Inner.{NoneBefore, Ascend, next_file_below}
use Rattle.acl_tree.proofs.Follows.{known_by_next}

equal_is_not_less : Equal ≡ Less → ⊥
equal_is_not_less e = cc

not_greater_itself : (p : PathOf) → path_cmp p p ≢ Greater
not_greater_itself p = λ gt. equal_is_not_greater (sym (tied_itself path_total p) ∙ gt)

le_trans : (a b c : PathOf) → path_cmp a b ≢ Greater → path_cmp b c ≢ Greater → path_cmp a c ≢ Greater
le_trans a b c ab bc = by (path_cmp a b) refl
  where
    by : (o : Ordering) → path_cmp a b ≡ o → path_cmp a c ≢ Greater
    by Less is = λ gt. less_is_not_greater (sym (before_from a b c is bc) ∙ gt)
    by Equal is = subst (λ z. path_cmp z c ≢ Greater) (sym (exact_paths a b is)) bc
    by Greater is = absurd (ab is)

-- ---- one operand

pub same_path : (p q : PathOf) → eq_by_cmp path_cmp q p ≡ true → q ≡ p
same_path p q h = exact_paths q p (is_equal (path_cmp q p) h)

-- an operand is not after what it means
pub means_from : (b : Bool) (p q : PathOf) → means b p q ≡ true → path_cmp p q ≢ Greater
means_from true p q h = λ gt. true≢false (sym (ap is_gt gt) ∙ not_before p q h)
means_from false p q h = subst (λ z. path_cmp p z ≢ Greater) (sym (same_path p q h)) (not_greater_itself p)

-- what is between an operand and a file that it means is meant too
means_convex : (b : Bool) (p e r : PathOf) → path_cmp p e ≢ Greater → path_cmp e r ≢ Greater → means b p r ≡ true → means b p e ≡ true
means_convex true p e r pe er h = by (path_cmp e r) refl
  where
    by : (o : Ordering) → path_cmp e r ≡ o → encloses p e ≡ true
    by Less is = convex p e r (not_gt _ pe) is h
    by Equal is = subst (λ z. encloses p z ≡ true) (sym (exact_paths e r is)) h
    by Greater is = absurd (er is)
means_convex false p e r pe er h = by (path_cmp e p) refl
  where
    by : (o : Ordering) → path_cmp e p ≡ o → eq_by_cmp path_cmp e p ≡ true
    by Less is = absurd (pe (above e p is))
    by Equal is = ap is_eq is
    by Greater is = absurd (er (subst (λ z. path_cmp e z ≡ Greater) (sym (same_path p r h)) is))

-- ---- operands in path order

not_greater_from : (o : Ordering) → is_lt o ≡ false → o ≢ Less
not_greater_from Less h = absurd (true≢false h)
not_greater_from Equal h = equal_is_not_less
not_greater_from Greater h = λ e. less_is_not_greater (sym e)

none_before_later : (p q : PathOf) (ps : List PathOf) → path_cmp p q ≢ Greater → NoneBefore q ps → NoneBefore p ps
none_before_later p q [] le h = tt
none_before_later p q (r ∷ ps) le h = (le_trans p q r le h.0, none_before_later p q ps le h.1)

ascends : (xs : List PathOf) → ((k : ℕ) (d : PathOf) → suc k < length xs → is_lt (path_cmp (get_or xs (suc k) d) (get_or xs k d)) ≡ false) → Ascend xs
ascends [] h = tt
ascends (x ∷ []) h = (tt, tt)
ascends (x ∷ y ∷ xs) h =
    let rest = ascends (y ∷ xs) (λ k d lt. h (suc k) d (omega arith)) in
    let first : path_cmp x y ≢ Greater = λ gt. not_greater_from (path_cmp y x) (h 0 x (omega arith)) (below x y gt) in
    ((first, none_before_later x y xs first rest.0), rest)

-- what a sort leaves
pub ascend_sorted : (xs : List PathOf) → IsSortedBy (λ x y. is_lt (path_cmp x y)) xs → Ascend xs
ascend_sorted xs h = ascends xs (λ k d lt. ap (λ n. is_lt (path_cmp (get_or xs n d) (get_or xs k d))) (omega arith) ∙ h k d (omega arith) (omega arith))

-- ---- their files

pub filter_alike : {V : Type 0} (f g : PathOf → Bool) → ((q : PathOf) → f q ≡ g q) → (t : List (PathOf × V)) → filter (λ e. f e.0) t ≡ filter (λ e. g e.0) t
filter_alike f g h [] = refl
filter_alike f g h (e ∷ t) = λ i. cond (h e.0 i) (e ∷ filter_alike f g h t i) (filter_alike f g h t i)

-- ---- what operands in path order mean

pub none_meant : {V : Type 0} (b : Bool) (es : List (PathOf × V)) → files_meant b [] es ≡ []
none_meant b [] = refl
none_meant b (e ∷ es) = none_meant b es

-- no operand from one on means what is before that one
none_before : (b : Bool) (q : PathOf) (qs : List PathOf) (p : PathOf) → NoneBefore q qs → path_cmp q p ≡ Greater → is_file b qs p ≡ false
none_before b q [] p h gt = refl
none_before b q (r ∷ qs) p h gt = by (means b r p) refl (none_before b q qs p h.1 gt)
  where
    by : (c : Bool) → means b r p ≡ c → is_file b qs p ≡ false → (c || is_file b qs p) ≡ false
    by true is rest = absurd (le_trans q r p h.0 (means_from b r p is) gt)
    by false is rest = rest

module _ {V : Type 0} (b : Bool) (q : PathOf) (qs : List PathOf) where
  -- an entry that the first operand means comes first
  pub taken : (e : PathOf × V) (more : List (PathOf × V)) → means b q e.0 ≡ true → files_meant b (q ∷ qs) (e ∷ more) ≡ e ∷ files_meant b (q ∷ qs) more
  taken e more is = ap (λ c. cond (c || is_file b qs e.0) (e ∷ files_meant b (q ∷ qs) more) (files_meant b (q ∷ qs) more)) is

  passed_each : (p : PathOf) → path_cmp q p ≢ Greater → means b q p ≡ false → (es : List (PathOf × V)) → After p es → files_meant b (q ∷ qs) es ≡ files_meant b qs es
  passed_each p le is [] h = refl
  passed_each p le is (e ∷ es) h = λ i. cond (out (means b q e.0) refl i || is_file b qs e.0) (e ∷ passed_each p le is es h.1 i) (passed_each p le is es h.1 i)
    where
      out : (c : Bool) → means b q e.0 ≡ c → c ≡ false
      out true k = absurd (true≢false (sym (means_convex b q p e.0 le (λ gt. less_is_not_greater (sym h.0 ∙ gt)) k) ∙ is))
      out false k = refl

  -- after an entry that it does not mean, and is not after, it means none
  pub passed : (e : PathOf × V) (more : List (PathOf × V)) → IsInOrder (e ∷ more) → path_cmp e.0 q ≢ Less → means b q e.0 ≡ false → files_meant b (q ∷ qs) (e ∷ more) ≡ files_meant b qs (e ∷ more)
  passed e more order from is =
      let le : path_cmp q e.0 ≢ Greater = λ gt. from (below q e.0 gt) in
      λ i. cond (is i || is_file b qs e.0) (e ∷ passed_each e.0 le is more (later_after e more order) i) (passed_each e.0 le is more (later_after e more order) i)

  -- before it none is meant
  pub meant_from : NoneBefore q qs → (es : List (PathOf × V)) → files_meant b (q ∷ qs) (from q es) ≡ files_meant b (q ∷ qs) es
  meant_from none [] = refl
  meant_from none (e ∷ es) = by (is_gt (path_cmp q e.0)) refl (meant_from none es)
    where
      meant : List (PathOf × V)
      meant = files_meant b (q ∷ qs) es

      outside : is_gt (path_cmp q e.0) ≡ true → (c : Bool) → means b q e.0 ≡ c → (c || is_file b qs e.0) ≡ false
      outside gt true is = absurd (means_from b q e.0 is (is_greater (path_cmp q e.0) gt))
      outside gt false is = none_before b q qs e.0 none (is_greater (path_cmp q e.0) gt)

      by : (c : Bool) → is_gt (path_cmp q e.0) ≡ c → files_meant b (q ∷ qs) (from q es) ≡ meant
          → files_meant b (q ∷ qs) (cond (not c) (e ∷ from q es) (from q es)) ≡ cond (is_file b (q ∷ qs) e.0) (e ∷ meant) meant
      by true is rest = rest ∙ sym (ap (λ c. cond c (e ∷ meant) meant) (outside is (means b q e.0) refl))
      by false is rest = ap (λ l. cond (is_file b (q ∷ qs) e.0) (e ∷ l) l) rest

-- ---- the end of a map

in_order-right : {V : Type 0} (pre es : List (PathOf × V)) → IsInOrder (pre ++ es) → IsInOrder es
in_order-right [] es order = order
in_order-right (x ∷ pre) es order = in_order-right pre es (and_parts _ _ order).1

module _ {V : Type 0} (all rest more : List (PathOf × V)) (e : PathOf × V) (order : IsInOrder all) (end : IsEndOf rest all) (is : rest ≡ e ∷ more) where
  whole : end.before ++ e ∷ more ≡ all
  whole = ap (λ l. end.before ++ l) (sym is) ∙ end.joined

  pub order_left : IsInOrder (e ∷ more)
  order_left = in_order-right end.before (e ∷ more) (subst IsInOrder (sym whole) order)

  -- from a later path on it is the same end
  pub end_from : (q : PathOf) → path_cmp e.0 q ≡ Less → from q all ≡ from q more
  end_from q lt =
      ap (from q) (sym whole)
      ∙ from-append q end.before (e ∷ more)
      ∙ ap (λ l. l ++ from q (e ∷ more))
      (from_none q end.before (before_later e.0 q end.before (λ gt. less_is_not_greater (sym lt ∙ gt)) (before_part end.before e more (subst IsInOrder (sym whole) order))))
      ∙ ap (λ c. cond (not c) (e ∷ from q more) (from q more)) (ap is_gt (above e.0 q lt))

pub fewer_from : {V : Type 0} (q : PathOf) (es : List (PathOf × V)) → length (from q es) ≤ length es
fewer_from q [] = omega arith
fewer_from q (e ∷ es) = by (is_gt (path_cmp q e.0)) (fewer_from q es)
  where
    by : (c : Bool) → length (from q es) ≤ length es → length (cond (not c) (e ∷ from q es) (from q es)) ≤ suc (length es)
    by true h = omega arith
    by false h = omega arith

-- an end of an end
pub end_of_end : {V : Type 0} (a b c : List (PathOf × V)) → IsEndOf a b → IsEndOf b c → IsEndOf a c
end_of_end a b c x y = record { before = y.before ++ x.before; joined = append_assoc y.before x.before a ∙ ap (λ l. y.before ++ l) x.joined ∙ y.joined }

pub end_after : {V : Type 0} (e : PathOf × V) (more rest : List (PathOf × V)) → rest ≡ e ∷ more → IsEndOf more rest
end_after e more rest is = record { before = e ∷ []; joined = sym is }

pub end_at : {V : Type 0} (q : PathOf) (es : List (PathOf × V)) → IsInOrder es → IsEndOf (from q es) es
end_at q es order = let end = from_end q es order in record { before = end.0; joined = sym end.1 }

-- ---- a step of the walk

pub record Head {V : Type 0} (p : PathOf) (es : List (PathOf × V)) : Type 0 where
  pub entry : PathOf × V
  pub more : List (PathOf × V)
  pub is : es ≡ entry ∷ more
  pub path : entry.0 ≡ p

some_is_not_none : (p : PathOf) → None ≡ Some p → ⊥
some_is_not_none p h = cc

same_some : (p q : PathOf) → Some p ≡ Some q → p ≡ q
same_some p q h = cc

pub head_of : {V : Type 0} (p : PathOf) (es : List (PathOf × V)) → Some p ≡ option_map (λ e. e.0) (first es) → Head p es
head_of p [] h = absurd (some_is_not_none p (sym h))
head_of p (e ∷ es) h = record { entry = e; more = es; is = refl; path = sym (same_some p e.0 h) }

module _ {V : Type 0} (b : Bool) (all rest : List (PathOf × V)) (ops qs : List PathOf) (q p : PathOf) (order : IsInOrder all) (end : IsEndOf rest all) (head : Head p rest) (split : ops ≡ q ∷ qs) where
  here : IsInOrder (head.entry ∷ head.more)
  here = order_left all rest head.more head.entry order end head.is

  module _ (lt : path_cmp p q ≡ Less) where
    sought : from q all ≡ from q head.more
    sought = end_from all rest head.more head.entry order end head.is q (ap (λ r. path_cmp r q) head.path ∙ lt)

    skipped : from q rest ≡ from q head.more
    skipped = ap (from q) head.is ∙ ap (λ c. cond (not c) (head.entry ∷ from q head.more) (from q head.more)) (ap is_gt (above head.entry.0 q (ap (λ r. path_cmp r q) head.path ∙ lt)))

    pub sought_meant : Ascend ops → files_meant b ops (from q all) ≡ files_meant b ops rest
    sought_meant asc =
        let none : NoneBefore q qs = (subst Ascend split asc).0 in
        (λ i. files_meant b (split i) ((sought ∙ sym skipped) i)) ∙ meant_from b q qs none rest ∙ ap (λ l. files_meant b l rest) (sym split)

    pub sought_end : IsEndOf (from q all) rest
    sought_end = subst (λ l. IsEndOf l rest) (skipped ∙ sym sought) (end_at q rest (subst IsInOrder (sym head.is) here))

    pub sought_fewer : length (from q all) < length rest
    sought_fewer = omega (arith, ap length sought, fewer_from q head.more, ap length head.is)

  pub passed_meant : path_cmp p q ≢ Less → means b q p ≡ false → files_meant b qs rest ≡ files_meant b ops rest
  passed_meant from out =
      ap (files_meant b qs) head.is
      ∙ sym (passed b q qs head.entry head.more here (subst (λ r. path_cmp r q ≢ Less) (sym head.path) from) (ap (means b q) head.path ∙ out))
      ∙ (λ i. files_meant b (sym split i) (sym head.is i))

-- ---- whether another file is below

used_right : (k : KindsOf Node) (pre ns : Numbers) → AreUsed k (pre ++ ns) → AreUsed k ns
used_right k [] ns used = used
used_right k (e ∷ pre) ns used = used_right k pre ns used.1

next_by : (k : KindsOf Node) (p : PathOf) (ns : Numbers) → AreUsed k ns → next_file_below p (entries_by k ns) ≡ next_file_below p ns
next_by k p [] used = refl
next_by k p (e ∷ ns) used = ap (next_file_below p) (entry_first k e ns used.0.0 used.0.1)

pub below_peeked : {A V : Type 0} (f : A → PathOf) (p : PathOf) (es : List (PathOf × V)) (o : Option A) → option_map f o ≡ option_map (λ e. e.0) (first es)
    → option_map_or (λ a. is_above p (f a)) o false ≡ next_file_below p es
below_peeked f p [] None h = refl
below_peeked f p [] (Some a) h = absurd (some_is_not_none (f a) (sym h))
below_peeked f p (e ∷ es) None h = absurd (some_is_not_none e.0 h)
below_peeked f p (e ∷ es) (Some a) h = ap (is_above p) (same_some (f a) e.0 h)

-- it is seen from the next one
pub below_by_next : (k : KindsOf Node) (ns pre more : Numbers) (e : PathOf × ℕ) (n : Node) → IsInOrder (entries_by k ns) → AreUsed k ns
    → node_at k e.1 ≡ Some n → ns ≡ pre ++ e ∷ more → next_file_below e.0 more ≡ holds_below (entries_by k ns) e.0
below_by_next k ns pre more e n order used at is =
    let whole : entries_by k ns ≡ entries_by k pre ++ (e.0, n) ∷ entries_by k more =
    ap (entries_by k) is ∙ entries_append k pre (e ∷ more) ∙ ap (λ l. entries_by k pre ++ l) (entry_first k e more n at)
    in
    sym (next_by k e.0 more (used_right k pre (e ∷ more) (subst (λ (l : Numbers). AreUsed k l) is used)).1)
    ∙ known_by_next (entries_by k pre) (e.0, n) (entries_by k more) (subst IsInOrder whole order)
    ∙ ap (λ (es : Files). holds_below es e.0) (sym whole)
