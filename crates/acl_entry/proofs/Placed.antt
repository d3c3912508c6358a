-- Entries in list order: where a key is, or would be.
use Rattle.std.proofs.Common.{◌≡◌, ℕ, zero, suc, ◌+◌, ◌<◌, false, cond, IsTrue, List, [], ◌∷◌, length, get_or, set, Some, None, Result, Ok, Err, IfOk, IfErr}
use Rattle.std.proofs.Common.{Ordering, Less, Equal, Greater, refl, sym, ap, subst, ◌∙◌, arith}
use Rattle.std.specs.List.{insert}
use Rattle.std.specs.Ordering.{is_lt, is_eq}
use Rattle.std.specs.List.Sorted.{IsSearchInRange, IsBinarySearchResult, IsSortedBy}
use Rattle.std.specs.FinMap.{find, put}
use Rattle.std.specs.FinMap.Entries.{below_all, by_order}
use Rattle.std.proofs.lemmas.Bool.{and_parts}
use Rattle.std.proofs.lemmas.Cmp.{tied_itself}
use Rattle.std.proofs.lemmas.List.Sorted.{searchable_from_sorted}
use Rattle.acl_entry.specs.declared.entry.Key.{Key}
use Rattle.acl_entry.specs.declared.entry.Entry.{Entry}
use Rattle.acl_entry.specs.Perms.{Perms}
use Rattle.acl_entry.specs.Keys.{key_cmp}
use Rattle.acl_entry.specs.Lists.{pairs, IsInOrder, IsAt, IsGapFor}
use Rattle.acl_entry.proofs.KeyLaws.{key_total, exact_keys, above, below}
use Rattle.acl_entry.proofs.Basics.{is_less}

below_at : (k : Key) (es : List Entry) → IsTrue (below_all key_cmp k (pairs es)) → (j : ℕ) (d : Entry) → j < length es → key_cmp k (get_or es j d).key ≡ Less
below_at k [] h j d lt = absurd (omega arith)
below_at k (e ∷ es) h zero d lt = is_less _ (and_parts _ _ h).0
below_at k (e ∷ es) h (suc j) d lt = below_at k es (and_parts _ _ h).1 j d (omega arith)

-- the keys rise
pub rises : (es : List Entry) → IsInOrder es → (i j : ℕ) (d : Entry) → i < j → j < length es → key_cmp (get_or es i d).key (get_or es j d).key ≡ Less
rises [] h i j d lt in_range = absurd (omega arith)
rises (e ∷ es) h i zero d lt in_range = absurd (omega arith)
rises (e ∷ es) h zero (suc j) d lt in_range = below_at e.key es (and_parts _ _ h).0 j d (omega arith)
rises (e ∷ es) h (suc i) (suc j) d lt in_range = rises es (and_parts _ _ h).1 i j d (omega arith) (omega arith)

is_sorted_by : (es : List Entry) → IsInOrder es → IsSortedBy (λ a b. is_lt (key_cmp a.key b.key)) es
is_sorted_by es h k d low high = ap is_lt (above (get_or es k d).key (get_or es (k + 1) d).key (rises es h k (k + 1) d (omega arith) (omega arith)))

-- what a binary search by the keys answers
pub searched : (es : List Entry) → IsInOrder es → (k : Key) (r : Result ℕ ℕ) → IsSearchInRange r (length es) → IsBinarySearchResult (λ e. key_cmp e.key k) es r
    → record { found : IfOk r (IsAt es k); absent : IfErr r (IsGapFor es k) }
searched es h k (Ok i) in_range equal = record { found = record { in_range = in_range; has_key = λ d. exact_keys _ _ (equal d) }; absent = tt }
searched es h k (Err i) in_range parted =
    let two = parted (searchable_from_sorted key_total (λ (e : Entry). e.key) es k (is_sorted_by es h)) in
    record {
      found = tt;
      absent = record {
        in_range = in_range;
        lower_before = λ j d lt. above (get_or es j d).key k (two.0 j d (omega arith) lt);
        higher_after = λ j d le lt. below (get_or es j d).key k (two.1 j d le lt);
      };
    }

found_here : (k : Key) (e : Entry) (es : List Entry) → e.key ≡ k → find key_cmp k (pairs (e ∷ es)) ≡ Some e.perm
found_here k e es same = ap (λ r. cond (is_eq r) (Some e.perm) (find key_cmp k (pairs es))) (subst (λ q. key_cmp k q ≡ Equal) (sym same) (tied_itself key_total k))

found_later : (k : Key) (e : Entry) (es : List Entry) (o : Ordering) → key_cmp k e.key ≡ o → is_eq o ≡ false → find key_cmp k (pairs (e ∷ es)) ≡ find key_cmp k (pairs es)
found_later k e es o is other = ap (λ b. cond b (Some e.perm) (find key_cmp k (pairs es))) (ap is_eq is ∙ other)

pub tail_at : (e : Entry) (es : List Entry) (k : Key) (i : ℕ) → IsAt (e ∷ es) k (suc i) → IsAt es k i
tail_at e es k i at = record { in_range = omega (arith, at.in_range); has_key = at.has_key }

pub tail_gap : (e : Entry) (es : List Entry) (k : Key) (i : ℕ) → IsGapFor (e ∷ es) k (suc i) → IsGapFor es k i
tail_gap e es k i gap = record {
  in_range = omega (arith, gap.in_range);
  lower_before = λ j d lt. gap.lower_before (suc j) d (omega arith);
  higher_after = λ j d le lt. gap.higher_after (suc j) d (omega arith) (omega arith);
}

-- the keys before the place of k are lower
pub before_at : (e : Entry) (es : List Entry) (k : Key) (i : ℕ) → IsInOrder (e ∷ es) → IsAt (e ∷ es) k (suc i) → key_cmp k e.key ≡ Greater
before_at e es k i h at =
    above e.key k (subst (λ q. key_cmp e.key q ≡ Less) (at.has_key e) (rises (e ∷ es) h 0 (suc i) e (omega arith) at.in_range))

pub find_at : (es : List Entry) → IsInOrder es → (k : Key) (i : ℕ) → IsAt es k i → (d : Entry) → find key_cmp k (pairs es) ≡ Some (get_or es i d).perm
find_at [] h k i at d = absurd (omega (arith, at.in_range))
find_at (e ∷ es) h k zero at d = found_here k e es (at.has_key d)
find_at (e ∷ es) h k (suc i) at d = found_later k e es Greater (before_at e es k i h at) refl ∙ find_at es (and_parts _ _ h).1 k i (tail_at e es k i at) d

pub find_gap : (es : List Entry) (k : Key) (i : ℕ) → IsGapFor es k i → find key_cmp k (pairs es) ≡ None
find_gap [] k i gap = refl
find_gap (e ∷ es) k zero gap = found_later k e es Less (gap.higher_after 0 e (omega arith) (omega arith)) refl ∙ find_gap es k zero (record {
  in_range = omega arith;
  lower_before = λ j d lt. absurd (omega arith);
  higher_after = λ j d le lt. gap.higher_after (suc j) d (omega arith) (omega arith);
})
find_gap (e ∷ es) k (suc i) gap = found_later k e es Greater (gap.lower_before 0 e (omega arith)) refl ∙ find_gap es k i (tail_gap e es k i gap)

-- a new key goes into its gap
pub put_gap : (es : List Entry) (k : Key) (v : Perms) (i : ℕ) → IsGapFor es k i → put key_cmp k v (pairs es) ≡ pairs (insert es i (record { key = k; perm = v }))
put_gap [] k v zero gap = refl
put_gap [] k v (suc i) gap = absurd (omega (arith, gap.in_range))
put_gap (e ∷ es) k v zero gap =
    ap (λ r. by_order r ((k, v) ∷ pairs (e ∷ es)) ((e.key, v) ∷ pairs es) ((e.key, e.perm) ∷ put key_cmp k v (pairs es))) (gap.higher_after 0 e (omega arith) (omega arith))
put_gap (e ∷ es) k v (suc i) gap =
    ap (λ r. by_order r ((k, v) ∷ pairs (e ∷ es)) ((e.key, v) ∷ pairs es) ((e.key, e.perm) ∷ put key_cmp k v (pairs es))) (gap.lower_before 0 e (omega arith))
    ∙ ap (λ z. (e.key, e.perm) ∷ z) (put_gap es k v i (tail_gap e es k i gap))

-- an old key keeps its place
pub put_at : (es : List Entry) → IsInOrder es → (k : Key) (v : Perms) (i : ℕ) → IsAt es k i → put key_cmp k v (pairs es) ≡ pairs (set es i (record { key = k; perm = v }))
put_at [] h k v i at = absurd (omega (arith, at.in_range))
put_at (e ∷ es) h k v zero at =
    ap (λ r. by_order r ((k, v) ∷ pairs (e ∷ es)) ((e.key, v) ∷ pairs es) ((e.key, e.perm) ∷ put key_cmp k v (pairs es)))
    (subst (λ q. key_cmp k q ≡ Equal) (sym (at.has_key e)) (tied_itself key_total k))
    ∙ ap (λ q. (q, v) ∷ pairs es) (at.has_key e)
put_at (e ∷ es) h k v (suc i) at =
    ap (λ r. by_order r ((k, v) ∷ pairs (e ∷ es)) ((e.key, v) ∷ pairs es) ((e.key, e.perm) ∷ put key_cmp k v (pairs es))) (before_at e es k i h at)
    ∙ ap (λ z. (e.key, e.perm) ∷ z) (put_at es (and_parts _ _ h).1 k v i (tail_at e es k i at))

-- the same search by an order that agrees
pub search_by : (R : Key → Key → Ordering) → ((a b : Key) → R a b ≡ key_cmp a b) → (es : List Entry) (k : Key) (r : Result ℕ ℕ)
    → IsBinarySearchResult (λ e. R e.key k) es r → IsBinarySearchResult (λ e. key_cmp e.key k) es r
search_by R same es k r h = subst (λ (f : Entry → Ordering). IsBinarySearchResult f es r) (λ i e. same e.key k i) h
