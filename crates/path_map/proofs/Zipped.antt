-- Paths and as many values, as one list of entries.
use Rattle.std.proofs.Common.{◌≡◌, ◌≢◌, ℕ, zero, suc, ◌+◌, ◌-◌, ◌<◌, ◌≤◌, true, false, not, List, [], ◌∷◌, length, map, get_or, take, drop, Some, None, Less}
use Rattle.std.proofs.Common.{Equal, Greater, refl, sym, ap, subst, ◌∙◌, arith, nat_lt, ltb-true, ltb-false}
use Rattle.std.specs.List.{zip}
use Rattle.std.specs.FinMap.{find, is_sorted}
use Rattle.std.specs.List.Sorted.{IsPartitionPoint, IsPartitionedBy}
use Rattle.std.specs.Ordering.{is_gt, is_lt}
use Rattle.std.proofs.lemmas.List.{get_or-map, length-map}
use Rattle.acl_names.specs.Paths.{path_cmp, PathOf}
use Rattle.acl_names.proofs.PathOrder.{exact_paths}
use Rattle.acl_names.proofs.Basics.{less_is_not_greater, equal_is_not_greater, less_left}
use Rattle.path_map.specs.Entries.{IsInOrder}
use Rattle.path_map.specs.Below.{up_to}
use Rattle.path_map.specs.Inner.{IsStart, IsCountUpTo, BeginsBy, BeginsAfter}
use Rattle.path_map.proofs.Places.{find_at, find_gap, find_after, above, rises, above_earlier, not_above_later}
use Rattle.path_map.proofs.Shared.{parted, start_at}
use Rattle.path_map.proofs.UpTo.{parted_end, end_at, found_end, missed_end}
use Rattle.path_map.proofs.Rows.{in_order-rows, sorted_rows}

-- a path with nothing beside it
abbrev pub keyed : PathOf → PathOf × Unit {0}
keyed p = (p, tt)

abbrev pub keyed_of : {V : Type 0} → PathOf × V → PathOf × Unit {0}
keyed_of e = (e.0, tt)

module _ {A B : Type 0} where
  pub zip_length : (ps : List A) (vs : List B) → length vs ≡ length ps → length (zip ps vs) ≡ length ps
  zip_length [] vs same = refl
  zip_length (p ∷ ps) [] same = absurd (omega arith)
  zip_length (p ∷ ps) (v ∷ vs) same = ap suc (zip_length ps vs (omega arith))

  pub take_zip : (n : ℕ) (ps : List A) (vs : List B) → zip (take n ps) (take n vs) ≡ take n (zip ps vs)
  take_zip zero ps vs = refl
  take_zip (suc n) [] vs = refl
  take_zip (suc n) (p ∷ ps) [] = refl
  take_zip (suc n) (p ∷ ps) (v ∷ vs) = ap (λ l. (p, v) ∷ l) (take_zip n ps vs)

  zip_none : (ps : List A) → zip {X = B} ps [] ≡ []
  zip_none [] = refl
  zip_none (p ∷ ps) = refl

  pub drop_zip : (n : ℕ) (ps : List A) (vs : List B) → zip (drop n ps) (drop n vs) ≡ drop n (zip ps vs)
  drop_zip zero ps vs = refl
  drop_zip (suc n) [] vs = refl
  drop_zip (suc n) (p ∷ ps) [] = zip_none (drop n ps)
  drop_zip (suc n) (p ∷ ps) (v ∷ vs) = drop_zip n ps vs

  pub at_zip : (ps : List A) (vs : List B) → length vs ≡ length ps → (j : ℕ) (d : A × B) → get_or (zip ps vs) j d ≡ (get_or ps j d.0, get_or vs j d.1)
  at_zip [] [] same j d = refl
  at_zip [] (v ∷ vs) same j d = absurd (omega arith)
  at_zip (p ∷ ps) [] same j d = absurd (omega arith)
  at_zip (p ∷ ps) (v ∷ vs) same zero d = refl
  at_zip (p ∷ ps) (v ∷ vs) same (suc j) d = at_zip ps vs (omega arith) j d

  pub entry_at : (ps : List A) (vs : List B) (es : List (A × B)) → length vs ≡ length ps → zip ps vs ≡ es → (j : ℕ) (p : A) (v : B)
      → ((d : A) → p ≡ get_or ps j d) → ((d : B) → v ≡ get_or vs j d) → (d : A × B) → (p, v) ≡ get_or es j d
  entry_at ps vs es same is j p v is_p is_v d = (λ i. (is_p d.0 i, is_v d.1 i)) ∙ sym (at_zip ps vs same j d) ∙ ap (λ l. get_or l j d) is

  pub path_at : (ps : List A) (vs : List B) (es : List (A × B)) → length vs ≡ length ps → zip ps vs ≡ es → (j : ℕ) (p : A) → ((d : A) → p ≡ get_or ps j d) → (d : A × B) → p ≡ (get_or es j d).0
  path_at ps vs es same is j p is_p d = is_p d.0 ∙ sym (ap (λ e. e.0) (at_zip ps vs same j d)) ∙ ap (λ l. (get_or l j d).0) is

  -- both parts of pairs, as pairs
  pub zip_parts : {C : Type 0} (f : C → A) (g : C → B) (xs : List C) → zip (map f xs) (map g xs) ≡ map (λ x. (f x, g x)) xs
  zip_parts f g [] = refl
  zip_parts f g (x ∷ xs) = ap (λ l. (f x, g x) ∷ l) (zip_parts f g xs)

pub keys_zip : {V : Type 0} (ps : List PathOf) (vs : List V) → length vs ≡ length ps → map keyed_of (zip ps vs) ≡ map keyed ps
keys_zip [] vs same = refl
keys_zip (p ∷ ps) [] same = absurd (omega arith)
keys_zip (p ∷ ps) (v ∷ vs) same = ap (λ l. keyed p ∷ l) (keys_zip ps vs (omega arith))

-- other values leave the order of the paths
pub in_order-zip : {V W : Type 0} (ps : List PathOf) (vs : List V) (ws : List W) → length vs ≡ length ps → length ws ≡ length ps → IsInOrder (zip ps vs) → IsInOrder (zip ps ws)
in_order-zip ps vs ws same_vs same_ws h =
    sym (sorted_rows {R = Unit {0}} (λ v. tt) (zip ps ws))
    ∙ ap (is_sorted path_cmp) (keys_zip ps ws same_ws ∙ sym (keys_zip ps vs same_vs))
    ∙ sorted_rows {R = Unit {0}} (λ v. tt) (zip ps vs)
    ∙ h

pub map_same : {A : Type 0} (xs : List A) → map (λ x. x) xs ≡ xs
map_same [] = refl
map_same (x ∷ xs) = ap (λ l. x ∷ l) (map_same xs)

module _ {V : Type 0} (ps : List PathOf) (vs : List V) (es : List (PathOf × V)) (same : length vs ≡ length ps) (is : zip ps vs ≡ es) where
  same_keys : map keyed_of es ≡ map keyed ps
  same_keys = ap (λ l. map keyed_of l) (sym is) ∙ keys_zip ps vs same

  key_at : (j : ℕ) (d : PathOf × V) → j < length es → get_or (map keyed ps) j (keyed d.0) ≡ keyed (get_or es j d).0
  key_at j d lt = ap (λ l. get_or l j (keyed d.0)) (sym same_keys) ∙ get_or-map keyed_of es j d (keyed d.0) lt

  pub length_of : length es ≡ length ps
  length_of = ap length (sym is) ∙ zip_length ps vs same

  pub keys_in_order : IsInOrder es → IsInOrder (map keyed ps)
  keys_in_order h = subst IsInOrder same_keys (in_order-rows {R = Unit {0}} (λ v. tt) es h)

  pub paths_parted : (p : PathOf) → IsInOrder es → IsPartitionedBy (λ q. is_gt (path_cmp p q)) ps
  paths_parted p h = parted keyed ps p (keys_in_order h)

  start_of_keys : (p : PathOf) (i : ℕ) → IsStart (map keyed ps) p i → IsStart es p i
  start_of_keys p i s = record {
    in_range = let le : i ≤ length (map keyed ps) = s.in_range in omega (arith, le, length-map ps keyed, length_of);
    before = λ j d lt.
        let le : i ≤ length (map keyed ps) = s.in_range in
        let in_es : j < length es = omega (arith, le, length-map ps keyed, length_of, lt) in
        ap (λ e. path_cmp p e.0) (sym (key_at j d in_es)) ∙ s.before j (keyed d.0) lt;
    from = λ j d le lt gt.
        let in_ps : j < length (map keyed ps) = omega (arith, length-map ps keyed, length_of, lt) in
        s.from j (keyed d.0) le in_ps (ap (λ e. path_cmp p e.0) (key_at j d lt) ∙ gt);
  }

  -- how many paths another one is after
  pub start_of : (p : PathOf) (i : ℕ) → i ≤ length ps → IsPartitionPoint (λ q. is_gt (path_cmp p q) ≡ true) (λ q. is_gt (path_cmp p q) ≡ false) ps i → IsStart es p i
  start_of p i le point = start_of_keys p i (start_at keyed ps p i le point)

  pub paths_parted_end : (p : PathOf) → IsInOrder es → IsPartitionedBy (λ q. not (is_lt (path_cmp p q))) ps
  paths_parted_end p h = parted_end keyed ps p (keys_in_order h)

  -- how many paths are not after one
  pub end_of : (p : PathOf) (n : ℕ) → n ≤ length ps → IsPartitionPoint (λ q. not (is_lt (path_cmp p q)) ≡ true) (λ q. not (is_lt (path_cmp p q)) ≡ false) ps n → IsCountUpTo (λ e. e ∷ []) es p n
  end_of p n le point = let c : IsCountUpTo (λ q. keyed q ∷ []) ps p n = end_at keyed ps p n le point in record {
    in_range = omega (arith, le, length_of);
    last = λ d some.
        let b : BeginsBy (keyed (get_or ps (n - 1) d.0) ∷ []) p = c.last d.0 some in
        record {
          some = omega arith;
          not_after = λ x. subst (λ q. path_cmp p q ≢ Less) (sym (path_of (n - 1) d)) (b.not_after (keyed x.0));
        };
    next = λ d lt.
        let b : BeginsAfter (keyed (get_or ps n d.0) ∷ []) p = c.next d.0 (omega (arith, lt, length_of)) in
        record {
          some = omega arith;
          after = λ x. ap (λ q. path_cmp p q) (path_of n d) ∙ b.after (keyed x.0);
        };
  }
    where
      path_of : (j : ℕ) (d : PathOf × V) → (get_or es j d).0 ≡ get_or ps j d.0
      path_of j d = ap (λ l. (get_or l j d).0) (sym is) ∙ ap (λ e. e.0) (at_zip ps vs same j d)

module _ {V : Type 0} where
  pub found_at : (es : List (PathOf × V)) (p : PathOf) (i : ℕ) (e : PathOf × V) → IsStart es p i → i < length es → ((d : PathOf × V) → e ≡ get_or es i d)
      → path_cmp p e.0 ≡ Equal → find path_cmp p es ≡ Some e.1
  found_at es p i e s lt is same = find_at es p i e s lt (ap (λ x. path_cmp p x.0) (sym (is e)) ∙ same) ∙ ap (λ x. Some x.1) (sym (is e))

  pub missed_at : (es : List (PathOf × V)) → IsInOrder es → (p : PathOf) (i : ℕ) (e : PathOf × V) → IsStart es p i → i < length es
      → ((d : PathOf × V) → e ≡ get_or es i d) → path_cmp p e.0 ≢ Equal → find path_cmp p es ≡ None
  missed_at es h p i e s lt is other =
      find_gap es h p i e s (less_left _ (s.from i e (omega arith) lt) (λ eq. other (ap (λ x. path_cmp p x.0) (is e) ∙ eq))) lt

  pub passed_at : (es : List (PathOf × V)) (p : PathOf) (i : ℕ) → IsStart es p i → i ≡ length es → find path_cmp p es ≡ None
  passed_at es p i s is = find_after es p i s (omega arith)

  pub last_found : (es : List (PathOf × V)) (p : PathOf) (k : ℕ) (x : PathOf × V) → IsInOrder es → IsCountUpTo (λ e. e ∷ []) es p (k + 1) → ((d : PathOf × V) → x ≡ get_or es k d) → up_to p es ≡ Some x
  last_found es p k x h c is = ap (up_to p) (sym (map_same es)) ∙ found_end (λ e. e) es p k x (subst IsInOrder (sym (map_same es)) h) c (is x)

  pub none_found : (es : List (PathOf × V)) (p : PathOf) → IsInOrder es → IsCountUpTo (λ e. e ∷ []) es p 0 → up_to p es ≡ None
  none_found es p h c = ap (up_to p) (sym (map_same es)) ∙ missed_end (λ e. e) es p (subst IsInOrder (sym (map_same es)) h) c

  -- a place between what is before a path and what is not
  pub start_between : (es : List (PathOf × V)) (p : PathOf) (i : ℕ) → IsInOrder es → i ≤ length es
      → ((d : PathOf × V) → 0 < i → path_cmp p (get_or es (i - 1) d).0 ≡ Greater)
      → ((d : PathOf × V) → i < length es → path_cmp p (get_or es i d).0 ≢ Greater)
      → IsStart es p i
  start_between es p i h le last next = record {
    in_range = le;
    before = λ j d lt. above_earlier es h p (i - 1) j d (last d (omega arith)) (omega arith) (omega arith);
    from = λ j d from lt. not_above_later es h p i j d (next d (omega arith)) from lt;
  }

  -- a place whose entry has the path
  pub start_here : (es : List (PathOf × V)) (p : PathOf) (i : ℕ) (e : PathOf × V) → IsInOrder es → i < length es → ((d : PathOf × V) → e ≡ get_or es i d) → path_cmp p e.0 ≡ Equal → IsStart es p i
  start_here es p i e h lt is same =
      start_between es p i h (omega arith)
      (λ d some. above (get_or es (i - 1) d).0 p
      (subst (λ q. path_cmp (get_or es (i - 1) d).0 q ≡ Less) (ap (λ x. x.0) (sym (is d)) ∙ sym (exact_paths p e.0 same)) (rises es h (i - 1) i d (omega arith) lt)))
      (λ d in_range gt. equal_is_not_greater (sym same ∙ ap (λ x. path_cmp p x.0) (is d) ∙ gt))

  -- a place between what is before a path and what is after it
  pub start_gap : (es : List (PathOf × V)) (p : PathOf) (i : ℕ) → IsInOrder es → i ≤ length es
      → ((d : PathOf × V) → 0 < i → path_cmp p (get_or es (i - 1) d).0 ≡ Greater)
      → ((d : PathOf × V) → i < length es → path_cmp p (get_or es i d).0 ≡ Less)
      → IsStart es p i
  start_gap es p i h le last next = start_between es p i h le last (λ d lt gt. less_is_not_greater (sym (next d lt) ∙ gt))

  -- where the entry after those before a path is after it, it is nowhere
  pub none_between : (es : List (PathOf × V)) (p : PathOf) (i : ℕ) → IsInOrder es → IsStart es p i
      → ((d : PathOf × V) → i < length es → path_cmp p (get_or es i d).0 ≡ Less) → find path_cmp p es ≡ None
  none_between [] p i h s next = refl
  none_between (e ∷ es) p i h s next =
      elim (nat_lt i (length (e ∷ es))) as (λ b. nat_lt i (length (e ∷ es)) ≡ b → find path_cmp p (e ∷ es) ≡ None) [
        | true ↦ λ is. let lt : i < length (e ∷ es) = omega (arith, ltb-true _ _ is) in find_gap (e ∷ es) h p i e s (next e lt) lt
        | false ↦ λ is. find_after (e ∷ es) p i s (omega (arith, ltb-false _ _ is))
      ] refl
