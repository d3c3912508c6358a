-- Notes in the order of their ids: sorted, with one more, without one, and the first of an id.
use Rattle.std.proofs.Common.{◌≡◌, ℕ, zero, suc, ◌+◌, ◌<◌, ◌≤◌, ◌==◌, ◌&&◌, Bool, true, false, true≢false, not, cond, List, [], ◌∷◌, ◌++◌, length, map, filter, find, take, drop, get_or}
use Rattle.std.proofs.Common.{slice_get, Option, Some, None, option_map, refl, sym, ap, subst, ◌∙◌, arith, nat_cmp, take-append-drop, append-nil}
use Rattle.std.specs.Prelude.{nat_lt, nat_le}
use Rattle.std.specs.List.{All, insert}
use Rattle.std.specs.List.Sorted.{IsSortedByKey, IsStableByKey, IsPartitionPoint, ties}
use Rattle.std.specs.Ordering.{is_lt}
use Rattle.std.proofs.lemmas.Bool.{ltb-true, ltb-false, leb-true, leb-false, eqb-true, eq-eqb, ne_eqb}
use Rattle.std.proofs.lemmas.Bool.Decides.{nat_tests}
use Rattle.std.proofs.lemmas.List.{length-map, length-drop, get_or-map, get_or-drop}
use Rattle.std.proofs.lemmas.List.Elements.{filter-append, filter_agree}
use Rattle.std.proofs.lemmas.List.Kept.{IsNonDecreasingBy-filter}
use Rattle.std.proofs.lemmas.List.Sorted.{IsNonDecreasingBy-from_sort, IsNonDecreasingBy-insert}
use Rattle.std.proofs.lemmas.Option.{slice_get_read, slice_get_past}
use Rattle.acl_people.specs.declared.places_by_id.Note.{Note}
use Rattle.acl_people.specs.Kept.{is_for, first_place, lowered, without_place, AreInOrder, AreSorted}

-- ---- lists

find-filter : {A : Type 0} (p : A → Bool) (xs : List A) → find p xs ≡ slice_get (filter p xs) 0
find-filter p [] = refl
find-filter p (x ∷ xs) = by (p x) (find-filter p xs)
  where
    by : (b : Bool) → find p xs ≡ slice_get (filter p xs) 0 → cond b (Some x) (find p xs) ≡ slice_get (cond b (x ∷ filter p xs) (filter p xs)) 0
    by true h = refl
    by false h = h

none_pass : {A : Type 0} (p : A → Bool) (xs : List A) → All (λ x. p x ≡ false) xs → filter p xs ≡ []
none_pass p [] h = refl
none_pass p (x ∷ xs) h = ap (λ b. cond b (x ∷ filter p xs) (filter p xs)) (h 0 x (omega arith)) ∙ none_pass p xs (λ k d lt. h (suc k) d (omega (arith, lt)))

all_from : {A : Type 0} (P : A → Type 0) (xs : List A) (n : ℕ) → ((k : ℕ) (d : A) → n ≤ k → k < length xs → P (get_or xs k d)) → All P (drop n xs)
all_from P xs n h k d lt = subst P (sym (get_or-drop n xs k d)) (h (n + k) d (omega arith) (omega (arith, lt, length-drop n xs)))

-- ---- sorted

tie : (m n : ℕ) → (not (is_lt (nat_cmp n m)) && not (is_lt (nat_cmp m n))) ≡ (m == n)
tie m n = grind (arith, nat_tests)

pub sorted_notes : (old new : List Note) → IsSortedByKey (λ n. n.id) nat_cmp new → IsStableByKey (λ n. n.id) nat_cmp old new → AreSorted old new
sorted_notes old new sorted stable = record {
  in_order = IsNonDecreasingBy-from_sort (λ n. n.id) new sorted;
  same = λ id. sym (filter_agree (tied id) (is_for id) (λ n. tie n.id id) new) ∙ stable (record { id = id; place = 0 }) ∙ filter_agree (tied id) (is_for id) (λ n. tie n.id id) old;
}
  where
    tied : ℕ → Note → Bool
    tied id n = ties (λ (x y : Note). is_lt (nat_cmp x.id y.id)) (record { id = id; place = 0 }) n

pub sorted_same : (old new : List Note) → AreInOrder old → new ≡ old → AreSorted (old ++ []) new
sorted_same old new h is = record { in_order = subst AreInOrder (sym is) h; same = λ id. ap (filter (is_for id)) (is ∙ sym (append-nil old)) }

-- where the notes of greater ids begin
pub end_at : (id : ℕ) (ns : List Note) (i : ℕ) → IsPartitionPoint (λ n. nat_le n.id id ≡ true) (λ n. nat_le n.id id ≡ false) ns i → IsPartitionPoint (λ n. n.id ≤ id) (λ n. id < n.id) ns i
end_at id ns i h = (λ k d a b. leb-true _ _ (h.0 k d a b), λ k d a b. leb-false _ _ (h.1 k d a b))

-- one more, after those of its id
pub sorted_more : (ns : List Note) (at : ℕ) (y : Note) → AreInOrder ns → at ≤ length ns → IsPartitionPoint (λ n. n.id ≤ y.id) (λ n. y.id < n.id) ns at → AreSorted (ns ++ y ∷ []) (insert ns at y)
sorted_more ns at y h within end = record {
  in_order = IsNonDecreasingBy-insert (λ n. n.id) ns at y h within (λ k d lt. end.0 k d (omega arith) lt) (λ k d low lt. omega (arith, end.1 k d low lt));
  same = λ id. by id (is_for id y) refl;
}
  where
    inserted : (p : Note → Bool) → filter p (insert ns at y) ≡ filter p (take at ns) ++ filter p (y ∷ drop at ns)
    inserted p = filter-append p (take at ns) (y ∷ drop at ns)

    whole : (p : Note → Bool) → filter p (take at ns) ++ filter p (drop at ns) ≡ filter p ns
    whole p = sym (filter-append p (take at ns) (drop at ns)) ∙ ap (filter p) (take-append-drop at ns)

    none_later : (id : ℕ) → is_for id y ≡ true → filter (is_for id) (drop at ns) ≡ []
    none_later id is =
        none_pass (is_for id) (drop at ns)
        (all_from (λ n. is_for id n ≡ false) ns at (λ k d low lt. ne_eqb (get_or ns k d).id id (λ one. omega (arith, end.1 k d low lt, one, eqb-true y.id id is))))

    by : (id : ℕ) (b : Bool) → is_for id y ≡ b → filter (is_for id) (insert ns at y) ≡ filter (is_for id) (ns ++ y ∷ [])
    by id true is =
        let p = is_for id in
        let front : filter p (take at ns) ≡ filter p ns = sym (append-nil (filter p (take at ns))) ∙ ap (λ l. filter p (take at ns) ++ l) (sym (none_later id is)) ∙ whole p in
        inserted p
        ∙ ap (λ b. filter p (take at ns) ++ cond b (y ∷ filter p (drop at ns)) (filter p (drop at ns))) is
        ∙ (λ j. front j ++ y ∷ none_later id is j)
        ∙ ap (λ b. filter p ns ++ cond b (y ∷ []) []) (sym is)
        ∙ sym (filter-append p ns (y ∷ []))
    by id false is =
        let p = is_for id in
        inserted p
        ∙ ap (λ b. filter p (take at ns) ++ cond b (y ∷ filter p (drop at ns)) (filter p (drop at ns))) is
        ∙ whole p
        ∙ sym (append-nil (filter p ns))
        ∙ ap (λ b. filter p ns ++ cond b (y ∷ []) []) (sym is)
        ∙ sym (filter-append p ns (y ∷ []))

-- ---- without a place

order_lowered : (gone : ℕ) (ns : List Note) → AreInOrder ns → AreInOrder (map (lowered gone) ns)
order_lowered gone ns h i j d le lt =
    let within : j < length ns = omega (arith, lt, length-map ns (lowered gone)) in
    let low : (get_or (map (lowered gone) ns) i d).id ≡ (get_or ns i d).id = ap (λ (n : Note). n.id) (get_or-map (lowered gone) ns i d d (omega (arith, le, within))) in
    let high : (get_or (map (lowered gone) ns) j d).id ≡ (get_or ns j d).id = ap (λ (n : Note). n.id) (get_or-map (lowered gone) ns j d d within) in
    omega (arith, low, high, h i j d le within)

-- a test of ids does not depend on places
turned : (id gone : ℕ) (ns : List Note) → filter (is_for id) (without_place gone ns) ≡ without_place gone (filter (is_for id) ns)
turned id gone [] = refl
turned id gone (n ∷ ns) = by (stays n) (is_for id n) refl refl (turned id gone ns)
  where
    stays : Note → Bool
    stays m = not (m.place == gone)

    kept : List Note
    kept = filter (is_for id) (map (lowered gone) (filter stays ns))

    by : (a b : Bool) → stays n ≡ a → is_for id n ≡ b → filter (is_for id) (map (lowered gone) (filter stays ns)) ≡ map (lowered gone) (filter stays (filter (is_for id) ns))
        → filter (is_for id) (map (lowered gone) (cond a (n ∷ filter stays ns) (filter stays ns))) ≡ map (lowered gone) (filter stays (cond b (n ∷ filter (is_for id) ns) (filter (is_for id) ns)))
    by true true p q h =
        ap (λ x. cond x (lowered gone n ∷ kept) kept) q
        ∙ ap (λ l. lowered gone n ∷ l) h
        ∙ sym (ap (λ x. map (lowered gone) (cond x (n ∷ filter stays (filter (is_for id) ns)) (filter stays (filter (is_for id) ns)))) p)
    by true false p q h = ap (λ x. cond x (lowered gone n ∷ kept) kept) q ∙ h
    by false true p q h = h ∙ sym (ap (λ x. map (lowered gone) (cond x (n ∷ filter stays (filter (is_for id) ns)) (filter stays (filter (is_for id) ns)))) p)
    by false false p q h = h

pub sorted_without : (gone : ℕ) (old new : List Note) → AreSorted old new → AreSorted (without_place gone old) (without_place gone new)
sorted_without gone old new s = record {
  in_order = order_lowered gone (filter (λ n. not (n.place == gone)) new) (IsNonDecreasingBy-filter (λ n. n.id) (λ n. not (n.place == gone)) new s.in_order);
  same = λ id. turned id gone new ∙ ap (without_place gone) (s.same id) ∙ sym (turned id gone old);
}

-- ---- the first of an id

pub first_sorted : (id : ℕ) (old new : List Note) → AreSorted old new → first_place id new ≡ first_place id old
first_sorted id old new s =
    ap (λ o. option_map (λ (n : Note). n.place) o) (find-filter (is_for id) new ∙ ap (λ l. slice_get l 0) (s.same id) ∙ sym (find-filter (is_for id) old))

abbrev taken : ℕ → Option Note → Option Note
taken id None = None
taken id (Some n) = cond (is_for id n) (Some n) None

first_at : (id : ℕ) (ns : List Note) (i : ℕ) → AreInOrder ns → ((k : ℕ) (d : Note) → k < i → k < length ns → (get_or ns k d).id < id)
    → ((k : ℕ) (d : Note) → i ≤ k → k < length ns → id ≤ (get_or ns k d).id) → find (is_for id) ns ≡ taken id (slice_get ns i)
first_at id [] zero h below above = refl
first_at id [] (suc i) h below above = refl
first_at id (n ∷ ns) zero h below above = by (is_for id n) refl
  where
    least : id ≤ n.id
    least = above 0 n (omega arith) (omega arith)

    by : (b : Bool) → is_for id n ≡ b → cond b (Some n) (find (is_for id) ns) ≡ cond b (Some n) None
    by true is = refl
    by false is =
        find-filter (is_for id) ns
        ∙ ap (λ l. slice_get l 0) (none_pass (is_for id) ns
        (λ k d lt.
        let later : n.id ≤ (get_or ns k d).id = h 0 (suc k) d (omega arith) (omega (arith, lt)) in
        ne_eqb (get_or ns k d).id id (λ one. true≢false (sym (eq-eqb n.id id (omega (arith, least, later, one))) ∙ is))))
first_at id (n ∷ ns) (suc i) h below above =
    ap (λ b. cond b (Some n) (find (is_for id) ns)) (ne_eqb n.id id (λ one. omega (arith, below 0 n (omega arith) (omega arith), one)))
    ∙ first_at id ns i (λ a b d le lt. h (suc a) (suc b) d (omega arith) (omega arith))
    (λ k d a b. below (suc k) d (omega arith) (omega arith)) (λ k d a b. above (suc k) d (omega arith) (omega arith))

module _ (id : ℕ) (ns : List Note) (i : ℕ) (h : AreInOrder ns) (point : IsPartitionPoint (λ n. nat_lt n.id id ≡ true) (λ n. nat_lt n.id id ≡ false) ns i) where
  first : first_place id ns ≡ option_map (λ n. n.place) (taken id (slice_get ns i))
  first = ap (λ o. option_map (λ (n : Note). n.place) o)
      (first_at id ns i h (λ k d a b. ltb-true _ _ (point.0 k d (omega arith) a)) (λ k d a b. ltb-false _ _ (point.1 k d a b)))

  pub first_is : (n : Note) → i < length ns → n ≡ get_or ns i n → is_for id n ≡ true → Some n.place ≡ first_place id ns
  first_is n lt at is = sym
      (first ∙ ap (λ o. option_map (λ (m : Note). m.place) (taken id o)) (slice_get_read ns (length ns) i n refl lt at) ∙ ap (λ b. option_map (λ (m : Note). m.place) (cond b (Some n) None)) is)

  pub first_is_not : (n : Note) → i < length ns → n ≡ get_or ns i n → is_for id n ≡ false → None ≡ first_place id ns
  first_is_not n lt at is = sym
      (first ∙ ap (λ o. option_map (λ (m : Note). m.place) (taken id o)) (slice_get_read ns (length ns) i n refl lt at) ∙ ap (λ b. option_map (λ (m : Note). m.place) (cond b (Some n) None)) is)

  pub no_first : length ns ≤ i → None ≡ first_place id ns
  no_first past = sym (first ∙ ap (λ o. option_map (λ (m : Note). m.place) (taken id o)) (slice_get_past ns i past))
