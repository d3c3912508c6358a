-- Numbers by tags, and pairs of these.
use Rattle.std.proofs.Common.{◌≡◌, ℕ, zero, suc, ◌+◌, ◌*◌, ◌<◌, ◌≤◌, ◌&&◌, ◌||◌, Bool, true, false, true≢false, eqb, cond, List, [], ◌∷◌, ◌++◌, length, map}
use Rattle.std.proofs.Common.{filter, take, get_or, Option, Some, None, refl, sym, ap, subst, ◌∙◌, arith}
use Rattle.std.proofs.Common.{nat_lt, nat_cmp, ltb-true, ltb-false, Less}
use Rattle.std.specs.Prelude.{◌==◌, option_map, count_by}
use Rattle.acl_names.specs.Paths.{PathOf}
use Rattle.std.specs.Option.{option_map_or}
use Rattle.std.specs.List.{list_any, AllByRecursion}
use Rattle.std.specs.List.Sorted.{IsStrictlySortedBy, IsStrictlyIncreasing}
use Rattle.std.proofs.lemmas.List.{take_more, get_or_past}
use Rattle.std.proofs.lemmas.List.Folds.{list_any-append}
use Rattle.std.proofs.lemmas.Map.Keys.{sorted_from_strictly_increasing}
use Rattle.acl_names.proofs.Basics.{times_one, times_none}
use Rattle.kinds.specs.declared.pairs.pair.Pair.{Pair}
use Rattle.kinds.specs.PairSets.{has, seconds_of, tagged_pairs}
use Rattle.kinds.specs.Kinds.{KindsOf, node_at, count_at}
use Rattle.kinds.specs.Given.{used_at}
use Rattle.kinds.specs.Numbered.{Numbers, entries_by, AreSound}
use Rattle.kinds.specs.Renewed.{one_where, changed_where, weight_at, weight_before, Renews}
use Rattle.kinds.specs.Tagged.{is_one, meets, tags_at, AreTagsOf, SameBut, SameTagsBut, IsSettled, AreSettled, ChangesEach, ChangesTagged}
use Rattle.kinds.proofs.Numbers.{eq_true, eq_swap, node_within}
use Rattle.kinds.proofs.EntriesBy.{all_weaker, entry_first}
use Rattle.kinds.proofs.GivenNodes.{used_some, used_none}
use Rattle.kinds.proofs.Renewals.{weight_grows, weight_all}
use Rattle.kinds.proofs.PairLists.{has_join}

or_false : (b : Bool) → (b || false) ≡ b
or_false true = refl
or_false false = refl

-- ---- some numbers

pub all_one : (P : ℕ → Type 0) (xs : List ℕ) → ((n : ℕ) → is_one n xs ≡ true → P n) → AllByRecursion P xs
all_one P [] h = tt
all_one P (x ∷ xs) h =
    (h x (ap (λ b. b || is_one x xs) (here x)), all_one P xs (λ n one. h n (later (x == n) (is_one n xs) one)))
  where
    here : (n : ℕ) → (n == n) ≡ true
    here n = grind arith

    later : (a b : Bool) → b ≡ true → (a || b) ≡ true
    later true b h = refl
    later false b h = h

any_or : {A : Type 0} (f g : A → Bool) (xs : List A) → list_any (λ x. f x || g x) xs ≡ (list_any f xs || list_any g xs)
any_or f g [] = refl
any_or f g (x ∷ xs) = ap (λ b. (f x || g x) || b) (any_or f g xs) ∙ by (f x) (g x) (list_any f xs) (list_any g xs)
  where
    by : (a b c d : Bool) → ((a || b) || (c || d)) ≡ ((a || c) || (b || d))
    by true b c d = refl
    by false true true d = refl
    by false true false d = refl
    by false false c d = refl

any_flip : (y : ℕ) (xs : List ℕ) → list_any (λ x. y == x) xs ≡ is_one y xs
any_flip y [] = refl
any_flip y (x ∷ xs) = λ i. eq_swap y x i || any_flip y xs i

any_none : {A : Type 0} (xs : List A) → list_any (λ x. false) xs ≡ false
any_none [] = refl
any_none (x ∷ xs) = any_none xs

-- whether some of these are some of those, by a search for each of those
pub meets_swap : (xs ys : List ℕ) → list_any (λ y. is_one y xs) ys ≡ meets xs ys
meets_swap xs [] = sym (any_none xs)
meets_swap xs (y ∷ ys) =
    (λ i. sym (any_flip y xs) i || meets_swap xs ys i)
    ∙ sym (any_or (λ x. y == x) (λ x. is_one x ys) xs)

-- ---- pairs

pub has-tagged : (p : Pair) (tags : List ℕ) (n : ℕ) → has p (tagged_pairs tags n) ≡ (is_one p.first tags && (n == p.second))
has-tagged p [] n = refl
has-tagged p (t ∷ tags) n = ap (λ b. (eqb t p.first && eqb n p.second) || b) (has-tagged p tags n) ∙ by (t == p.first) (is_one p.first tags) (n == p.second)
  where
    by : (a b d : Bool) → ((a && d) || (b && d)) ≡ ((a || b) && d)
    by true true true = refl
    by true true false = refl
    by true false true = refl
    by true false false = refl
    by false b d = refl

pub has_second : (n t : ℕ) (ps : List Pair) → is_one n (seconds_of t ps) ≡ has (record { first = t; second = n }) ps
has_second n t [] = refl
has_second n t (p ∷ ps) = by (eqb p.first t) (has_second n t ps)
  where
    by : (b : Bool) → is_one n (seconds_of t ps) ≡ has (record { first = t; second = n }) ps
        → is_one n (map (λ q. q.second) (cond b (p ∷ filter (λ q. eqb q.first t) ps) (filter (λ q. eqb q.first t) ps))) ≡ ((b && eqb p.second n) || has (record { first = t; second = n }) ps)
    by true h = ap (λ c. (p.second == n) || c) h
    by false h = h

pub take_end : {A : Type 0} (xs : List A) (i : ℕ) → length xs ≤ i → take i xs ≡ xs
take_end [] zero le = refl
take_end [] (suc i) le = refl
take_end (x ∷ xs) zero le = absurd (omega (arith, le))
take_end (x ∷ xs) (suc i) le = ap (λ l. x ∷ l) (take_end xs i (omega (arith, le)))

-- the numbers of one tag more
pub tag_more : (n : ℕ) (ps : List Pair) (tags : List ℕ) (i d : ℕ) (old new : List ℕ) → i < length tags
    → is_one n old ≡ list_any (λ t. has (record { first = t; second = n }) ps) (take i tags)
    → new ≡ old ++ seconds_of (get_or tags i d) ps
    → is_one n new ≡ list_any (λ t. has (record { first = t; second = n }) ps) (take (i + 1) tags)
tag_more n ps tags i d old new lt h is =
    let f = λ (t : ℕ). has (record { first = t; second = n }) ps in
    ap (is_one n) is
    ∙ list_any-append (λ m. m == n) old (seconds_of (get_or tags i d) ps)
    ∙ (λ j. h j || (has_second n (get_or tags i d) ps ∙ sym (or_false (f (get_or tags i d)))) j)
    ∙ sym (list_any-append f (take i tags) (get_or tags i d ∷ []))
    ∙ sym (ap (list_any f) (take_more tags i d lt))

any_same : {A : Type 0} (f g : A → Bool) → ((x : A) → f x ≡ g x) → (xs : List A) → list_any f xs ≡ list_any g xs
any_same f g h [] = refl
any_same f g h (x ∷ xs) = λ i. h x i || any_same f g h xs i

-- the numbers of all of some tags
pub numbers_of_tags : {N : Type 0} (tags_of : N → List ℕ) (k : KindsOf N) (ps : List Pair) → AreTagsOf tags_of k ps → (n : ℕ) (tags : List ℕ)
    → list_any (λ t. has (record { first = t; second = n }) ps) tags ≡ meets (tags_at tags_of k n) tags
numbers_of_tags tags_of k ps are n tags =
    any_same (λ t. has (record { first = t; second = n }) ps) (λ t. is_one t (tags_at tags_of k n)) (λ t. are (record { first = t; second = n })) tags
    ∙ meets_swap (tags_at tags_of k n) tags

-- past the last number no node is used
pub past_end : {N : Type 0} (k : KindsOf N) (n : ℕ) → length k.0 ≤ n → used_at k n ≡ None
past_end k n le = by (nat_lt 0 (count_at k n)) (get_or_past k.0 n None le)
  where
    by : (b : Bool) → node_at k n ≡ None → cond b (node_at k n) None ≡ None
    by true is = is
    by false is = refl

-- ---- pairs that change

settle : (d e new gone was is : Bool) → IsSettled d new gone was is → IsSettled (d || (e || false)) (new || (is && e)) (gone || (was && e)) was is
settle true true true gone was is s = s
settle true true false gone was true s = refl
settle true true false true was false s = refl
settle true true false false true false s = refl
settle true true false false false false s = refl
settle true false true gone was is s = s
settle true false false true was true s = s
settle true false false true was false s = s
settle true false false false true true s = s
settle true false false false true false s = s
settle true false false false false true s = s
settle true false false false false false s = s
settle false true true gone was is s = absurd (true≢false s.0)
settle false true false true was is s = absurd (true≢false s.1)
settle false true false false was true s = refl
settle false true false false true false s = refl
settle false true false false false false s = refl
settle false false new gone true true s = (or_false new ∙ s.0, or_false gone ∙ s.1)
settle false false new gone true false s = (or_false new ∙ s.0, or_false gone ∙ s.1)
settle false false new gone false true s = (or_false new ∙ s.0, or_false gone ∙ s.1)
settle false false new gone false false s = (or_false new ∙ s.0, or_false gone ∙ s.1)

settle_same : (d e new gone was is : Bool) → (e ≡ true → was ≡ is) → IsSettled d new gone was is → IsSettled (d || (e || false)) new gone was is
settle_same true e new gone was is same s = s
settle_same false true new gone was is same s = (λ i. cond (s.0 i) true (cond (s.1 i) false was)) ∙ same refl
settle_same false false new gone was is same s = s

module _ {N : Type 0} (tags_of : N → List ℕ) (old k : KindsOf N) where
  settled_by : (done : List ℕ) (m : ℕ) (gone new : List Pair)
      → ((p : Pair) → IsSettled (is_one p.second done || ((m == p.second) || false)) (has p new) (has p gone) (is_one p.first (tags_at tags_of old p.second))
      (is_one p.first (tags_at tags_of k p.second)))
      → AreSettled tags_of old k (done ++ m ∷ []) gone new
  settled_by done m gone new h = λ p.
      subst (λ b. IsSettled b (has p new) (has p gone) (is_one p.first (tags_at tags_of old p.second)) (is_one p.first (tags_at tags_of k p.second)))
      (sym (list_any-append (λ n. n == p.second) done (m ∷ []))) (h p)

  pub settled_same : (done : List ℕ) (m : ℕ) (gone new : List Pair) → tags_at tags_of old m ≡ tags_at tags_of k m → AreSettled tags_of old k done gone new
      → AreSettled tags_of old k (done ++ m ∷ []) gone new
  settled_same done m gone new same s =
      settled_by done m gone new
      (λ p. settle_same (is_one p.second done) (m == p.second) (has p new) (has p gone) (is_one p.first (tags_at tags_of old p.second)) (is_one p.first (tags_at tags_of k p.second))
      (λ e. subst (λ n. is_one p.first (tags_at tags_of old n) ≡ is_one p.first (tags_at tags_of k n)) (eq_true m p.second e) (ap (is_one p.first) same))
      (s p))

  more_at : (l : KindsOf N) (m : ℕ) (ps new : List Pair) (p : Pair) → new ≡ ps ++ tagged_pairs (tags_at tags_of l m) m
      → has p new ≡ (has p ps || (is_one p.first (tags_at tags_of l p.second) && (m == p.second)))
  more_at l m ps new p is =
      ap (has p) is ∙ has_join p ps (tagged_pairs (tags_at tags_of l m) m)
      ∙ ap (λ b. has p ps || b) (has-tagged p (tags_at tags_of l m) m ∙ by (m == p.second) refl)
    where
      by : (b : Bool) → (m == p.second) ≡ b → (is_one p.first (tags_at tags_of l m) && b) ≡ (is_one p.first (tags_at tags_of l p.second) && b)
      by true e = ap (λ n. is_one p.first (tags_at tags_of l n) && true) (eq_true m p.second e)
      by false e = none (is_one p.first (tags_at tags_of l m)) ∙ sym (none (is_one p.first (tags_at tags_of l p.second)))
        where
          none : (a : Bool) → (a && false) ≡ false
          none true = refl
          none false = refl

  pub settled_more : (done : List ℕ) (m : ℕ) (gone new gone1 new1 : List Pair) → gone1 ≡ gone ++ tagged_pairs (tags_at tags_of old m) m → new1 ≡ new ++ tagged_pairs (tags_at tags_of k m) m
      → AreSettled tags_of old k done gone new → AreSettled tags_of old k (done ++ m ∷ []) gone1 new1
  settled_more done m gone new gone1 new1 is_gone is_new s =
      settled_by done m gone1 new1 (λ p.
      subst (λ b. IsSettled (is_one p.second done || ((m == p.second) || false)) b (has p gone1) (is_one p.first (tags_at tags_of old p.second)) (is_one p.first (tags_at tags_of k p.second)))
      (sym (more_at k m new new1 p is_new))
      (subst (λ b. IsSettled (is_one p.second done || ((m == p.second) || false))
      (has p new || (is_one p.first (tags_at tags_of k p.second) && (m == p.second))) b (is_one p.first (tags_at tags_of old p.second)) (is_one p.first (tags_at tags_of k p.second)))
      (sym (more_at old m gone gone1 p is_gone))
      (settle (is_one p.second done) (m == p.second) (has p new) (has p gone) (is_one p.first (tags_at tags_of old p.second)) (is_one p.first (tags_at tags_of k p.second)) (s p))))

  -- the pairs after the change
  pub settled_all : (numbers : List ℕ) (gone new ps left all : List Pair) → AreTagsOf tags_of old ps → SameTagsBut tags_of numbers old k → AreSettled tags_of old k numbers gone new
      → ((p : Pair) → has p left ≡ cond (has p gone) false (has p ps)) → ((p : Pair) → has p all ≡ cond (has p new) true (has p left)) → AreTagsOf tags_of k all
  settled_all numbers gone new ps left all are same s is_left is_all = λ p.
      is_all p ∙ ap (λ b. cond (has p new) true b) (is_left p ∙ ap (λ b. cond (has p gone) false b) (are p))
      ∙ by p (is_one p.second numbers) refl (s p)
    where
      by : (p : Pair) (d : Bool) → is_one p.second numbers ≡ d
          → IsSettled d (has p new) (has p gone) (is_one p.first (tags_at tags_of old p.second)) (is_one p.first (tags_at tags_of k p.second))
          → cond (has p new) true (cond (has p gone) false (is_one p.first (tags_at tags_of old p.second))) ≡ is_one p.first (tags_at tags_of k p.second)
      by p true e t = t
      by p false e t =
          (λ i. cond (t.0 i) true (cond (t.1 i) false (is_one p.first (tags_at tags_of old p.second))))
          ∙ ap (is_one p.first) (sym (same p.second e))

-- ---- nodes that become others with the same tags

module _ {N : Type 0} (tags_of : N → List ℕ) where
  -- the same nodes have the same tags
  pub same_tags : (numbers : List ℕ) (old k : KindsOf N) → SameBut numbers old k → SameTagsBut tags_of numbers old k
  same_tags numbers old k same = λ n other. ap (λ o. option_map_or tags_of o []) (same n other)

  kept_tags : (g : N → N) → ((x : N) → tags_of (g x) ≡ tags_of x) → (o : Option N) → option_map_or tags_of (option_map g o) [] ≡ option_map_or tags_of o []
  kept_tags g same None = refl
  kept_tags g same (Some x) = same x

  pub renewed_tags : (g : N → N) (k new : KindsOf N) → ((x : N) → tags_of (g x) ≡ tags_of x) → Renews g k new → (n : ℕ) → tags_at tags_of new n ≡ tags_at tags_of k n
  renewed_tags g k new same r n = by (nat_lt 0 (count_at k n)) refl
    where
      by : (b : Bool) → nat_lt 0 (count_at k n) ≡ b → tags_at tags_of new n ≡ tags_at tags_of k n
      by true is =
          let some : 0 < count_at k n = ltb-true _ _ is in
          let counts = r.counts n in
          let some_new : 0 < count_at new n = omega (arith, some, counts) in
          ap (λ o. option_map_or tags_of o []) (used_some new n some_new ∙ r.nodes n some ∙ ap (option_map g) (sym (used_some k n some)))
          ∙ kept_tags g same (used_at k n)
      by false is =
          let ge = ltb-false _ _ is in
          let counts = r.counts n in
          ap (λ o. option_map_or tags_of o []) (used_none new n (omega (arith, ge, counts)) ∙ sym (used_none k n (omega (arith, ge))))

  pub renewed_pairs : (g : N → N) (k new : KindsOf N) (ps : List Pair) → ((x : N) → tags_of (g x) ≡ tags_of x) → Renews g k new → AreTagsOf tags_of k ps → AreTagsOf tags_of new ps
  renewed_pairs g k new ps same r are = λ p. are p ∙ ap (is_one p.first) (sym (renewed_tags g k new same r p.second))

  module _ (wanted : List ℕ) where
    abbrev wants : N → Bool
    wants x = meets (tags_of x) wanted

    pub same_where : (f : N → N) → ((x : N) → tags_of (f x) ≡ tags_of x) → (x : N) → tags_of (changed_where wants f x) ≡ tags_of x
    same_where f same x = by (wants x)
      where
        by : (b : Bool) → tags_of (cond b (f x) x) ≡ tags_of x
        by true = same x
        by false = refl

    module _ (k : KindsOf N) (numbers : List ℕ) (exact : (n : ℕ) → is_one n numbers ≡ meets (tags_at tags_of k n) wanted) where
      pub renews_tagged : (f : N → N) (new : KindsOf N) → ChangesEach f numbers k new → Renews (changed_where wants f) k new
      renews_tagged f new h = record {
        nodes = λ n some.
            h.nodes n
            ∙ ap (λ b. cond b (option_map f (node_at k n)) (node_at k n)) (exact n ∙ ap (λ o. meets (option_map_or tags_of o []) wanted) (used_some k n some))
            ∙ by (node_at k n);
        counts = h.counts;
      }
        where
          either : (x : N) (b : Bool) → cond b (Some (f x)) (Some x) ≡ Some (cond b (f x) x)
          either x true = refl
          either x false = refl

          by : (o : Option N) → cond (meets (option_map_or tags_of o []) wanted) (option_map f o) o ≡ option_map (changed_where wants f) o
          by None = refl
          by (Some x) = either x (wants x)

      pub changes_tagged : (f : N → N) (new : KindsOf N) → ChangesEach f numbers k new → ChangesTagged f tags_of wanted k new
      changes_tagged f new h = record {
        nodes = λ n. h.nodes n ∙ ap (λ b. cond b (option_map f (node_at k n)) (node_at k n)) (exact n);
        counts = h.counts;
      }

      weighs : (o : Option N) (c : ℕ) (b : Bool) → nat_lt 0 c ≡ b → meets (option_map_or tags_of (cond b o None) []) wanted ≡ true → 0 < c * option_map_or (one_where wants) o 0
      weighs None c true is h = absurd (true≢false (sym h))
      weighs None c false is h = absurd (true≢false (sym h))
      weighs (Some x) c false is h = absurd (true≢false (sym h))
      weighs (Some x) c true is h =
          let lt = ltb-true _ _ is in
          subst (λ b. 0 < c * cond b 1 0) (sym h) (let one = times_one c in omega (arith, one, lt))

      weighs_not : (o : Option N) (c : ℕ) (b : Bool) → nat_lt 0 c ≡ b → meets (option_map_or tags_of (cond b o None) []) wanted ≡ false → c * option_map_or (one_where wants) o 0 ≡ 0
      weighs_not None c b is h = times_none c
      weighs_not (Some x) c true is h = ap (λ b. c * cond b 1 0) h ∙ times_none c
      weighs_not (Some x) c false is h =
          let ge = ltb-false _ _ is in
          let none : c ≡ 0 = omega (arith, ge) in
          ap (λ n. n * cond (wants x) 1 0) none ∙ grind arith

      some_node : (o : Option N) (c : ℕ) → 0 < c * option_map_or (one_where wants) o 0 → (x : N) × (o ≡ Some x)
      some_node None c lt = absurd (let none = times_none c in omega (arith, none, lt))
      some_node (Some x) c lt = (x, refl)

      weighs_within : (n : ℕ) → is_one n numbers ≡ true → (0 < weight_at (one_where wants) k n) × (n < length k.0)
      weighs_within n one =
          let w : 0 < weight_at (one_where wants) k n = weighs (node_at k n) (count_at k n) (nat_lt 0 (count_at k n)) refl (sym (exact n) ∙ one) in
          let some = some_node (node_at k n) (count_at k n) w in
          (w, node_within k.0 n some.0 some.1)

      -- numbers that rise are no more than what counts for them
      rising_fits : (a : ℕ) (ns : List ℕ) → IsStrictlySortedBy nat_cmp ns → AllByRecursion (λ n. a ≤ n) ns
          → AllByRecursion (λ n. (0 < weight_at (one_where wants) k n) × (n < length k.0)) ns → a ≤ length k.0
          → length ns + weight_before (one_where wants) k a ≤ weight_before (one_where wants) k (length k.0)
      unfolding IsStrictlySortedBy
      rising_fits a [] rises from all le = let grows = weight_grows (one_where wants) k a (length k.0) le in omega (arith, grows)
      rising_fits a (n ∷ ns) rises from all le =
          let lt = all.0.1 in
          let w = all.0.0 in
          let rest = rising_fits (suc n) ns rises.1 (all_weaker (λ m. nat_cmp n m ≡ Less) (λ m. suc n ≤ m) (λ m. less_is n m) ns rises.0) all.1 (omega (arith, lt)) in
          let grows = weight_grows (one_where wants) k a n from.0 in
          omega (arith, rest, grows, w)
        where
          less_is : (n m : ℕ) → nat_cmp n m ≡ Less → suc n ≤ m
          less_is n m h = grind (arith, h)

      pub tagged_few : IsStrictlyIncreasing numbers → length numbers ≤ weight_before (one_where wants) k (length k.0)
      tagged_few rises =
          let all = all_one (λ n. (0 < weight_at (one_where wants) k n) × (n < length k.0)) numbers weighs_within in
          let from = all_one (λ n. 0 ≤ n) numbers (λ n one. omega arith) in
          let fits = rising_fits 0 numbers (sorted_from_strictly_increasing numbers rises) from all (omega arith) in
          omega (arith, fits)

      nothing_before : ((n : ℕ) → weight_at (one_where wants) k n ≡ 0) → (m : ℕ) → weight_before (one_where wants) k m ≡ 0
      nothing_before h zero = refl
      nothing_before h (suc m) = let a = nothing_before h m in let b = h m in omega (arith, a, b)

      pub tagged_none : length numbers ≡ 0 → weight_before (one_where wants) k (length k.0) ≡ 0
      tagged_none none = nothing_before (λ n. weighs_not (node_at k n) (count_at k n) (nat_lt 0 (count_at k n)) refl (sym (exact n) ∙ by n numbers none)) (length k.0)
        where
          by : (n : ℕ) (ns : List ℕ) → length ns ≡ 0 → is_one n ns ≡ false
          by n [] h = refl
          by n (m ∷ ns) h = absurd (omega (arith, h))

      module _ (ns : Numbers) (sound : AreSound k ns) where
        counts_all : weight_before (one_where wants) k (length k.0) ≡ count_by (λ (e : PathOf × N). wants e.1) (entries_by k ns)
        counts_all = weight_all (one_where wants) k ns sound

        pub few_files : IsStrictlyIncreasing numbers → length numbers ≤ count_by (λ (e : PathOf × N). wants e.1) (entries_by k ns)
        few_files rises = let few = tagged_few rises in let all = counts_all in omega (arith, few, all)

        pub no_files : length numbers ≡ 0 → count_by (λ (e : PathOf × N). wants e.1) (entries_by k ns) ≡ 0
        no_files none = sym counts_all ∙ tagged_none none

  -- where no path is, there are no pairs
  pub no_pairs : (k : KindsOf N) (ns : Numbers) → AreSound k ns → entries_by k ns ≡ [] → AreTagsOf tags_of k []
  no_pairs k [] sound h = λ p. sym (ap (λ o. is_one p.first (option_map_or tags_of o [])) (used_none k p.second (sound.counted p.second)))
  no_pairs k (e ∷ ns) sound h = absurd (some (sym (entry_first k e ns sound.used.0.0 sound.used.0.1) ∙ h))
    where
      some : {A : Type 0} {x : A} {xs : List A} → x ∷ xs ≡ [] → ⊥
      some e = cc
