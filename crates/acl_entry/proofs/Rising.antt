-- Entries whose keys rise, and entries in another order.
use Rattle.std.proofs.Common.{◌≡◌, ℕ, zero, suc, ◌+◌, ◌-◌, ◌<◌, ◌≤◌, ◌&&◌, ◌||◌, Bool, true, false, cond, IsTrue, List, [], ◌∷◌, ◌++◌, length, get_or, take, Option, Some}
use Rattle.std.proofs.Common.{None, Ordering, Less, Equal, Greater, inl, inr, refl, sym, ap, subst, ◌∙◌, arith}
use Rattle.std.specs.List.{sum_by}
use Rattle.std.specs.List.Sorted.{IsPermutation}
use Rattle.std.specs.Prelude.{◌==◌, if◌then◌else◌}
use Rattle.std.specs.Ordering.{is_lt, is_eq, ordering_index}
use Rattle.std.specs.FinMap.{find}
use Rattle.std.specs.FinMap.Entries.{below_all}
use Rattle.std.proofs.lemmas.Bool.{and_parts, cases_lt}
use Rattle.std.proofs.lemmas.Cmp.{tied_itself}
use Rattle.std.proofs.lemmas.List.{length-take, get_or-take, get_or_default}
use Rattle.std.proofs.lemmas.List.Folds.{list_any-append}
use Rattle.std.proofs.lemmas.List.Sorted.{sum_by-IsPermutation}
use Rattle.std.proofs.lemmas.List.Sums.{sum_by-cons}
use Rattle.acl_entry.specs.declared.entry.Key.{Key}
use Rattle.acl_entry.specs.declared.entry.Entry.{Entry}
use Rattle.acl_entry.specs.Perms.{Perms, number, numbered}
use Rattle.acl_entry.specs.Keys.{key_cmp, same_key}
use Rattle.acl_entry.specs.Lists.{pairs, keys, is_among, repeated_from, repeated, IsInOrder}
use Rattle.acl_entry.proofs.KeyLaws.{key_total}
use Rattle.acl_entry.proofs.Basics.{both_true, is_equal, is_less}
use Rattle.acl_entry.proofs.Placed.{rises}
use Rattle.acl_entry.proofs.Faults.{next_entries}

-- ---- one entry more, whose key is above all others

below_more : (k : Key) (done : List Entry) (e : Entry) → IsTrue (below_all key_cmp k (pairs done)) → key_cmp k e.key ≡ Less → IsTrue (below_all key_cmp k (pairs (done ++ e ∷ [])))
below_more k [] e h less = ap (λ o. is_lt o && true) less
below_more k (x ∷ done) e h less = let parts = and_parts _ _ h in both_true _ _ parts.0 (below_more k done e parts.1 less)

in_order_more : (done : List Entry) → IsInOrder done → (e : Entry) → ((j : ℕ) (d : Entry) → j < length done → key_cmp (get_or done j d).key e.key ≡ Less) → IsInOrder (done ++ e ∷ [])
in_order_more [] h e less = refl
in_order_more (x ∷ done) h e less =
    let parts = and_parts _ _ h in
    both_true _ _ (below_more x.key done e parts.0 (less 0 x (omega arith))) (in_order_more done parts.1 e (λ j d lt. less (suc j) d (omega arith)))

pub is_below : (o : Ordering) → (ordering_index o == 0) ≡ true → o ≡ Less
is_below Less h = refl
is_below Equal h = cc
is_below Greater h = cc

-- the key at a place is above the one before it, and so above all before it
pub rises_more : (es : List Entry) (i : ℕ) (b e : Entry) → i < length es → e ≡ get_or es i e → IsInOrder (take i es)
    → (0 < i → key_cmp (get_or es (i - 1) b).key e.key ≡ Less) → IsInOrder (take (i + 1) es)
rises_more es i b e in_range is h less = subst IsInOrder (sym (next_entries es i e in_range is)) (in_order_more (take i es) h e below)
  where
    last : (j : ℕ) (d : Entry) → j < i → (j + 1 < i → ⊥) → key_cmp (get_or (take i es) j d).key e.key ≡ Less
    last j d lt past =
        let same : j ≡ i - 1 = omega (arith, lt, past) in
        ap (λ (x : Entry). key_cmp x.key e.key) (get_or-take i es j d lt ∙ ap (λ n. get_or es n d) same ∙ get_or_default es (i - 1) d b (omega (arith, lt, in_range))) ∙ less (omega (arith, lt))

    below : (j : ℕ) (d : Entry) → j < length (take i es) → key_cmp (get_or (take i es) j d).key e.key ≡ Less
    below j d lt =
        let long = length-take i es in
        let before : j < i = omega (arith, long, lt, in_range) in
        elim (cases_lt (j + 1) i) [
          | inl more ↦
              let step = rises (take i es) h j (i - 1) d (omega (arith, more)) (omega (arith, long, more, in_range)) in
              key_total.trans (get_or (take i es) j d).key (get_or (take i es) (i - 1) d).key e.key step (last (i - 1) d (omega (arith, more)) (λ past. omega (arith, past)))
          | inr past ↦ last j d before (λ more. omega (arith, more, past))
        ]

-- ---- what entries have of a key does not depend on their order

module _ (k : Key) where
  -- how many have the key
  pub ones : List Entry → ℕ
  ones es = sum_by (λ (e : Entry). cond (same_key k e.key) 1 0) es

  -- what those that have it add up to
  pub held : List Entry → ℕ
  held es = sum_by (λ (e : Entry). cond (same_key k e.key) (suc (number e.perm)) 0) es

  pub shown : ℕ → Option Perms
  shown zero = None
  shown (suc n) = Some (numbered n)

numbered-number : (s : Perms) → numbered (number s) ≡ s
numbered-number s = by s.read s.write s.execute
  where
    by : (r w x : Bool) → numbered (number (record { read = r; write = w; execute = x })) ≡ record { read = r; write = w; execute = x }
    by false false false = refl
    by false false true = refl
    by false true false = refl
    by false true true = refl
    by true false false = refl
    by true false true = refl
    by true true false = refl
    by true true true = refl

module _ (k : Key) where
  none_held : (es : List Entry) → ones k es ≡ 0 → held k es ≡ 0
  unfolding ones held
  none_held [] h = refl
  none_held (e ∷ es) h =
      by (same_key k e.key) (sym (sum_by-cons (λ (e : Entry). cond (same_key k e.key) 1 0) e es) ∙ h)
      (sum_by-cons (λ (e : Entry). cond (same_key k e.key) (suc (number e.perm)) 0) e es) (none_held es)
    where
      by : (b : Bool) → cond b 1 0 + ones k es ≡ 0 → held k (e ∷ es) ≡ cond b (suc (number e.perm)) 0 + held k es → (ones k es ≡ 0 → held k es ≡ 0) → held k (e ∷ es) ≡ 0
      by true some is rest = absurd (omega (arith, some))
      by false some is rest = let none = rest (omega (arith, some)) in omega (arith, is, none)

  -- what is found of a key that at most one entry has
  pub found_once : (es : List Entry) → ones k es ≤ 1 → find key_cmp k (pairs es) ≡ shown k (held k es)
  unfolding ones held shown
  found_once [] h = refl
  found_once (e ∷ es) h =
      by (same_key k e.key) (sum_by-cons (λ (e : Entry). cond (same_key k e.key) 1 0) e es)
      (sum_by-cons (λ (e : Entry). cond (same_key k e.key) (suc (number e.perm)) 0) e es) (found_once es)
    where
      by : (b : Bool) → ones k (e ∷ es) ≡ cond b 1 0 + ones k es → held k (e ∷ es) ≡ cond b (suc (number e.perm)) 0 + held k es
          → (ones k es ≤ 1 → find key_cmp k (pairs es) ≡ shown k (held k es)) → cond b (Some e.perm) (find key_cmp k (pairs es)) ≡ shown k (held k (e ∷ es))
      by true one is rest =
          let none = none_held es (omega (arith, one, h)) in
          let alone : suc (number e.perm) + held k es ≡ suc (number e.perm) = omega (arith, none) in
          ap Some (sym (numbered-number e.perm)) ∙ sym (ap (shown k) (is ∙ alone))
      by false one is rest = let same : held k (e ∷ es) ≡ held k es = omega (arith, is) in rest (omega (arith, one, h)) ∙ sym (ap (shown k) same)

  none_below : (es : List Entry) (low : Key) → same_key k low ≡ true → IsTrue (below_all key_cmp low (pairs es)) → ones k es ≡ 0
  unfolding ones
  none_below [] low is h = refl
  none_below (e ∷ es) low is h =
      let parts = and_parts _ _ h in
      let other : same_key k e.key ≡ false = ap is_eq (key_total.congr k low e.key (equal is) ∙ is_less _ parts.0) in
      sum_by-cons (λ (e : Entry). cond (same_key k e.key) 1 0) e es ∙ (λ i. cond (other i) 1 0 + none_below es low is parts.1 i)
    where
      equal : same_key k low ≡ true → key_cmp k low ≡ Equal
      equal h = is_equal (key_cmp k low) h

  -- in list order at most one entry has a key
  pub once_rising : (es : List Entry) → IsInOrder es → ones k es ≤ 1
  unfolding ones
  once_rising [] h = omega arith
  once_rising (e ∷ es) h = by (same_key k e.key) refl (sum_by-cons (λ (e : Entry). cond (same_key k e.key) 1 0) e es) (once_rising es (and_parts _ _ h).1)
    where
      by : (b : Bool) → same_key k e.key ≡ b → ones k (e ∷ es) ≡ cond b 1 0 + ones k es → ones k es ≤ 1 → ones k (e ∷ es) ≤ 1
      by true is one rest = let none = none_below es e.key is (and_parts _ _ h).0 in omega (arith, one, none)
      by false is one rest = omega (arith, one, rest)

-- no key comes twice where each comes once at most, among those before and these
none_twice : (before : List Key) (n : ℕ) (es : List Entry) → ((k : Key) → is_among k before ≡ true → ones k es ≡ 0) → ((k : Key) → ones k es ≤ 1) → repeated_from before n (keys es) ≡ None
unfolding ones
none_twice before n [] apart once = refl
none_twice before n (e ∷ es) apart once =
    here (is_among e.key before) refl (none_twice (before ++ e.key ∷ []) (n + 1) es later (λ k. let most = once k in let more = added k in omega (arith, most, more)))
  where
    itself : same_key e.key e.key ≡ true
    itself = ap is_eq (tied_itself key_total e.key)

    added : (k : Key) → ones k (e ∷ es) ≡ cond (same_key k e.key) 1 0 + ones k es
    added k = sum_by-cons (λ (e : Entry). cond (same_key k e.key) 1 0) e es

    later : (k : Key) → is_among k (before ++ e.key ∷ []) ≡ true → ones k es ≡ 0
    later k among = by (is_among k before) refl (same_key k e.key) refl (sym (list_any-append (same_key k) before (e.key ∷ [])) ∙ among)
      where
        by : (a : Bool) → is_among k before ≡ a → (b : Bool) → same_key k e.key ≡ b → (a || (b || false)) ≡ true → ones k es ≡ 0
        by true a b b_is h = let none = apart k a in let more = added k in omega (arith, none, more)
        by false a true b_is h = let most = once k in let more = added k ∙ ap (λ b. cond b 1 0 + ones k es) b_is in omega (arith, most, more)
        by false a false b_is h = cc

    here : (b : Bool) → is_among e.key before ≡ b → repeated_from (before ++ e.key ∷ []) (n + 1) (keys es) ≡ None → repeated_from before n (keys (e ∷ es)) ≡ None
    here true among rest =
        let none = apart e.key among in
        let more = added e.key ∙ ap (λ b. cond b 1 0 + ones e.key es) itself in
        absurd (omega (arith, none, more))
    here false among rest = ap (λ b. if b then Some n else repeated_from (before ++ e.key ∷ []) (n + 1) (keys es)) among ∙ rest

-- ---- entries of which a permutation is in list order

module _ (es sorted : List Entry) (moved : IsPermutation es sorted) (in_order : IsInOrder sorted) where
  once_each : (k : Key) → ones k es ≤ 1
  unfolding ones
  once_each k =
      let most = once_rising k sorted in_order in
      let same = sum_by-IsPermutation (λ (e : Entry). cond (same_key k e.key) 1 0) es sorted moved in
      omega (arith, most, same)

  pub found_alike : (k : Key) → find key_cmp k (pairs sorted) ≡ find key_cmp k (pairs es)
  unfolding ones held
  found_alike k =
      found_once k sorted (once_rising k sorted in_order)
      ∙ ap (shown k) (sum_by-IsPermutation (λ (e : Entry). cond (same_key k e.key) (suc (number e.perm)) 0) es sorted moved)
      ∙ sym (found_once k es (once_each k))

  pub none_repeated : repeated (keys es) ≡ None
  none_repeated = none_twice [] 1 es (λ k h. cc) once_each
