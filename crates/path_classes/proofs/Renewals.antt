-- Who can search down to classes, made again one class after another.
use Rattle.std.proofs.Common.{◌≡◌, ℕ, zero, suc, ◌+◌, ◌<◌, ◌≤◌, Bool, true, false, ◌||◌, List, [], ◌∷◌, ◌++◌, ◌-◌, length, drop, get_or, eqb, Option}
use Rattle.std.proofs.Common.{Some, None, is_some, refl, sym, ap, subst, ◌∙◌, arith, append-nil, add-one, drop-cons, length-append, ltb-true, ltb-false}
use Rattle.std.proofs.Math.Dec.{eqb→eq, eqb_refl}
use Rattle.std.specs.Prelude.{IfSome, option_map, nat_lt, if◌then◌else◌}
use Rattle.std.specs.List.{AllByRecursion, list_any, sum_by}
use Rattle.std.proofs.lemmas.List.{drop-append-le}
use Rattle.std.proofs.lemmas.List.Folds.{list_any-append}
use Rattle.std.proofs.lemmas.List.Sums.{sum_by-append, sum_by-cons}
use Rattle.std.specs.Option.{option_map_or, unwrap_or}
use Rattle.acl_names.proofs.Basics.{to_T, from_T}
use Rattle.kinds.specs.Kinds.{KindsOf, node_at, count_at}
use Rattle.path_classes.specs.declared.label_row.LabelRow.{LabelRow}
use Rattle.path_classes.specs.declared.path_class.PathClass.{PathClass}
use Rattle.path_classes.specs.Searching.{searchers}
use Rattle.path_classes.specs.PathClasses.{ClassKinds, kept_search, search_above, depth_at, depth_below, AboveKeeps}
use Rattle.kinds.specs.Renumbered.{Replaces}
use Rattle.path_classes.specs.Renewing.{is_one, IsLinked, IsSearch, IsFresh, AreLinked, shape, shape_at, IsBelow, AreBelow, Awaits, RenewsOne, IsAgain, IsFreshAt, IsLinkedAt}
use Rattle.path_classes.proofs.Growing.{some_is, some_of}

-- ---- numbers among others

same_number : (n : ℕ) → eqb n n ≡ true
same_number n = from_T (eqb n n) (eqb_refl n)

or_false : (a b : Bool) → (a || b) ≡ false → (a ≡ false) × (b ≡ false)
or_false true b h = cc
or_false false b h = (refl, h)

one_none : (n m : ℕ) (ns : List ℕ) → is_one n (m ∷ ns) ≡ false → (eqb m n ≡ false) × (is_one n ns ≡ false)
one_none n m ns h = or_false (eqb m n) (list_any (λ m. eqb m n) ns) h

one_append : (n : ℕ) (ms ns : List ℕ) → is_one n (ms ++ ns) ≡ false → (is_one n ms ≡ false) × (is_one n ns ≡ false)
one_append n [] ns h = (refl, h)
one_append n (m ∷ ms) ns h =
    let both = one_none n m (ms ++ ns) h in
    let rest = one_append n ms ns both.1 in
    (ap (λ b. b || list_any (λ m. eqb m n) ms) both.0 ∙ rest.0, rest.1)

-- one more at the end is one more in front
one_noted : (n m : ℕ) (ns : List ℕ) → is_one m (ns ++ n ∷ []) ≡ true → is_one m (n ∷ ns) ≡ true
one_noted n m ns h = turn (is_one m ns) (eqb n m) (sym (list_any-append (λ i. eqb i m) ns (n ∷ [])) ∙ h)
  where
    turn : (a b : Bool) → (a || (b || false)) ≡ true → (b || a) ≡ true
    turn a true h = refl
    turn true false h = refl
    turn false false h = h

one_later : (n m : ℕ) (ns : List ℕ) → is_one m ns ≡ true → is_one m (n ∷ ns) ≡ true
one_later n m ns h = by (eqb n m)
  where
    by : (b : Bool) → (b || is_one m ns) ≡ true
    by true = refl
    by false = h

pub not_both : (b : Bool) → b ≡ true → b ≡ false → ⊥
not_both b h k = cc

-- ---- shapes

-- a class of the same shape
pub shape_of : (k l : ClassKinds) → ((n : ℕ) → shape_at k n ≡ shape_at l n) → (n : ℕ) (c : PathClass) → node_at k n ≡ Some c → (d : PathClass) × ((node_at l n ≡ Some d) × (shape c ≡ shape d))
shape_of k l same n c is = by (node_at l n) refl (sym (ap (option_map shape) is) ∙ same n)
  where
    by : (o : Option PathClass) → node_at l n ≡ o → Some (shape c) ≡ option_map shape (node_at l n) → (d : PathClass) × ((node_at l n ≡ Some d) × (shape c ≡ shape d))
    by None here h = let no : Some (shape c) ≡ None = h ∙ ap (option_map shape) here in cc
    by (Some d) here h = let e : Some (shape c) ≡ Some (shape d) = h ∙ ap (option_map shape) here in (d, (here, cc))

module _ (rows : KindsOf LabelRow) (before k : ClassKinds) (same : (n : ℕ) → shape_at k n ≡ shape_at before n) where
  keeps_shaped : (above : Option ℕ) → AboveKeeps before above → AboveKeeps k above
  keeps_shaped None h = tt
  keeps_shaped (Some n) h = by (node_at before n) refl h.1
    where
      by : (o : Option PathClass) → node_at before n ≡ o → kept_search o ≡ Some h.0 → (s : List Bool) × (kept_search (node_at k n) ≡ Some s)
      by None is e = cc
      by (Some c) is e =
          let d = shape_of before k (λ n. sym (same n)) n c is in
          let kept : is_some d.0.search ≡ true = sym (ap (λ x. x.1.1.1) d.1.1) ∙ ap is_some e in
          let s = some_of d.0.search kept in
          (s.0, ap kept_search d.1.0 ∙ s.1)

  depth_shaped : (above : Option ℕ) → depth_below k above ≡ depth_below before above
  depth_shaped None = refl
  depth_shaped (Some n) = ap suc (sym (of_shape (node_at k n)) ∙ ap (λ o. option_map_or (λ x. x.1.1.0) o 0) (same n) ∙ of_shape (node_at before n))
    where
      of_shape : (o : Option PathClass) → option_map_or (λ x. x.1.1.0) (option_map shape o) 0 ≡ option_map_or (λ (c : PathClass). c.depth) o 0
      of_shape None = refl
      of_shape (Some c) = refl

  -- what is linked stays linked
  pub linked_shaped : AreLinked rows before → ((n : ℕ) → count_at k n ≡ count_at before n) → (n : ℕ) (c : PathClass) → 0 < count_at k n → node_at k n ≡ Some c → IsLinked rows k c
  linked_shaped linked counts n c used is =
      let d = shape_of k before same n c is in
      let l = linked n d.0 (let e = counts n in omega (arith, used, e)) d.1.0 in
      let kind : c.kind ≡ d.0.kind = ap (λ x. x.0) d.1.1 in
      let above : c.above ≡ d.0.above = ap (λ x. x.1.0) d.1.1 in
      let depth : c.depth ≡ d.0.depth = ap (λ x. x.1.1.0) d.1.1 in
      record {
        row = l.row;
        has_row = ap (node_at rows) kind ∙ l.has_row;
        above = subst (AboveKeeps k) (sym above) (keeps_shaped d.0.above l.above);
        depth = depth ∙ l.depth ∙ sym (depth_shaped d.0.above) ∙ ap (depth_below k) (sym above);
      }

-- ---- a class that is made again

module _ (k : ClassKinds) (n : ℕ) (x : PathClass) (new : ClassKinds) (r : Replaces k x n new) where
  at_new : node_at new n ≡ Some x
  at_new = r.nodes n ∙ ap (λ b. if b then Some x else node_at k n) (same_number n)

  pub is_new : (m : ℕ) (c : PathClass) → eqb m n ≡ true → node_at new m ≡ Some c → x ≡ c
  is_new m c here is = some_is (node_at new m) x c (ap (node_at new) (eqb→eq m n (to_T (eqb m n) here)) ∙ at_new) is

  pub at_other : (m : ℕ) → eqb m n ≡ false → node_at new m ≡ node_at k m
  at_other m apart = r.nodes m ∙ ap (λ b. if b then Some x else node_at k m) apart

  pub shapes_still : (c : PathClass) → node_at k n ≡ Some c → shape x ≡ shape c → (m : ℕ) → shape_at new m ≡ shape_at k m
  shapes_still c was same m = by (eqb m n) refl
    where
      by : (b : Bool) → eqb m n ≡ b → shape_at new m ≡ shape_at k m
      by true here =
          let e : m ≡ n = eqb→eq m n (to_T (eqb m n) here) in
          ap (shape_at new) e ∙ ap (option_map shape) at_new ∙ ap Some same ∙ sym (ap (option_map shape) was) ∙ ap (shape_at k) (sym e)
      by false apart = ap (option_map shape) (at_other m apart)

  -- what gets through a class above that is another one stays
  search_other : (above : Option ℕ) → (above ≡ Some n → ⊥) → search_above new above ≡ search_above k above
  search_other None h = refl
  search_other (Some m) h = by (eqb m n) refl
    where
      by : (b : Bool) → eqb m n ≡ b → search_above new (Some m) ≡ search_above k (Some m)
      by true here = absurd (h (ap Some (eqb→eq m n (to_T (eqb m n) here))))
      by false apart = ap (λ o. Some (unwrap_or (kept_search o) [])) (at_other m apart)

  pub fresh_still : (rows : KindsOf LabelRow) (c : PathClass) → (c.above ≡ Some n → ⊥) → IsFresh rows k c → IsFresh rows new c
  fresh_still rows c h f = by c.search f
    where
      by : (o : Option (List Bool)) → IfSome o (IsSearch rows k c) → IfSome o (IsSearch rows new c)
      by None f = tt
      by (Some s) f = λ row has. f row has ∙ ap (λ o. searchers o row.row) (sym (search_other c.above h))

-- ---- a class that waits

module _ (rows : KindsOf LabelRow) (before k : ClassKinds) (linked : AreLinked rows before) (n : ℕ) (rest changed : List ℕ) (w : Awaits rows before k (n ∷ rest) changed) where
  pub linked_first : IsLinkedAt rows k n
  linked_first c is = linked_shaped rows before k w.shapes linked w.counts n c w.used.0 is

  -- it is fresh
  pub awaits_less : IsFreshAt rows k n → Awaits rows before k rest changed
  awaits_less own = record {
    counts = w.counts;
    shapes = w.shapes;
    fresh = λ m c used is out. by m c used is out (eqb n m) refl;
    used = w.used.1;
    same = w.same;
  }
    where
      by : (m : ℕ) (c : PathClass) → 0 < count_at k m → node_at k m ≡ Some c → is_one m rest ≡ false → (b : Bool) → eqb n m ≡ b → IsFresh rows k c
      by m c used is out true here = own c (ap (node_at k) (eqb→eq n m (to_T (eqb n m) here)) ∙ is)
      by m c used is out false apart = w.fresh m c used is (ap (λ b. b || list_any (λ i. eqb i m) rest) apart ∙ out)

  -- it changes
  module _ (x : PathClass) (a : IsAgain rows k n x) (new : ClassKinds) (r : Replaces k x n new) (below : List ℕ) (b : AreBelow before n below) where
    -- a class is not above itself
    above_apart : x.above ≡ Some n → ⊥
    above_apart up =
        let c = a.class in
        let l = linked_first c a.is in
        let above : c.above ≡ Some n = sym (ap (λ s. s.1.0) a.shape) ∙ up in
        let deeper : c.depth ≡ suc c.depth = l.depth ∙ ap (depth_below k) above ∙ ap (λ o. suc (option_map_or (λ (d : PathClass). d.depth) o 0)) a.is in
        omega (arith, deeper)

    above_below : (m : ℕ) (c : PathClass) → 0 < count_at k m → node_at k m ≡ Some c → is_one m below ≡ false → c.above ≡ Some n → ⊥
    above_below m c used is out up =
        let d = shape_of k before w.shapes m c is in
        let above : d.0.above ≡ Some n = sym (ap (λ s. s.1.0) d.1.1) ∙ up in
        not_both (is_one m below) (b.all m d.0 (let e = w.counts m in omega (arith, used, e)) d.1.0 above) out

    fresh_next : (m : ℕ) (c : PathClass) → 0 < count_at new m → node_at new m ≡ Some c → is_one m (rest ++ below) ≡ false → IsFresh rows new c
    fresh_next m c used is out = by (eqb m n) refl
      where
        by : (b : Bool) → eqb m n ≡ b → IsFresh rows new c
        by true here = subst (IsFresh rows new) (is_new k n x new r m c here is) (fresh_still k n x new r rows x above_apart a.fresh)
        by false apart =
            let outs = one_append m rest below out in
            let old : node_at k m ≡ Some c = sym (at_other k n x new r m apart) ∙ is in
            let there : 0 < count_at k m = let e = r.counts m in omega (arith, used, e) in
            let turned : eqb n m ≡ false = grind (arith, apart) in
            fresh_still k n x new r rows c (above_below m c there old outs.1) (w.fresh m c there old (ap (λ b. b || list_any (λ i. eqb i m) rest) turned ∙ outs.0))

    used_both : (ms ns : List ℕ) → AllByRecursion (λ m. 0 < count_at k m) ms → AllByRecursion (IsBelow before n) ns
        → AllByRecursion (λ m. 0 < count_at new m) (ms ++ ns)
    used_both [] [] h g = tt
    used_both [] (m ∷ ns) h g = (let e = r.counts m in let f = w.counts m in let u = g.0.0 in omega (arith, e, f, u), used_both [] ns tt g.1)
    used_both (m ∷ ms) ns h g = (let e = r.counts m in let u = h.0 in omega (arith, e, u), used_both ms ns h.1 g)

    pub awaits_more : Awaits rows before new (rest ++ below) (changed ++ n ∷ [])
    awaits_more = record {
      counts = λ m. r.counts m ∙ w.counts m;
      shapes = λ m. shapes_still k n x new r a.class a.is a.shape m ∙ w.shapes m;
      fresh = fresh_next;
      used = used_both rest below w.used.1 b.each;
      same = λ m out.
          let outs = one_append m changed (n ∷ []) out in
          let turned : eqb m n ≡ false = let apart = (one_none m n [] outs.1).0 in grind (arith, apart) in
          at_other k n x new r m turned ∙ w.same m outs.0;
    }

-- ---- one step

module _ (rows : KindsOf LabelRow) (before old : ClassKinds) (linked : AreLinked rows before) (n : ℕ) (waiting changed : List ℕ) where
  -- nothing changes
  pub renews_none : IsFreshAt rows old n → RenewsOne rows before old n waiting changed waiting changed old
  renews_none own = record {
    below = [];
    pushed = sym (append-nil waiting);
    are = tt;
    few = omega arith;
    noted = λ m h. one_later n m changed h;
    awaits = λ rest w. subst (λ l. Awaits rows before old l changed) (sym (append-nil rest)) (awaits_less rows before old linked n rest changed w own);
  }

  pub renews_some : (x : PathClass) → IsAgain rows old n x → (new : ClassKinds) → Replaces old x n new → (below : List ℕ) → AreBelow before n below
      → (more_waiting more_changed : List ℕ) → more_waiting ≡ waiting ++ below → more_changed ≡ changed ++ n ∷ []
      → RenewsOne rows before old n waiting changed more_waiting more_changed new
  renews_some x a new r below b more_waiting more_changed pushed noted = record {
    below = below;
    pushed = pushed;
    are = b.each;
    few = b.few;
    noted = λ m h. one_noted n m changed (ap (is_one m) (sym noted) ∙ h);
    awaits = λ rest w. subst (Awaits rows before new (rest ++ below)) (sym noted) (awaits_more rows before old linked n rest changed w x a new r below b);
  }

-- ---- how long it takes

-- the depth of the deepest class
abbrev pub deepest : List (Option PathClass) → ℕ
deepest [] = 0
deepest (None ∷ cs) = deepest cs
deepest (Some c ∷ cs) = if nat_lt c.depth (deepest cs) then deepest cs else c.depth

deep_more : (c : PathClass) (cs : List (Option PathClass)) → (c.depth ≤ deepest (Some c ∷ cs)) × (deepest cs ≤ deepest (Some c ∷ cs))
deep_more c cs = by (nat_lt c.depth (deepest cs)) refl
  where
    by : (b : Bool) → nat_lt c.depth (deepest cs) ≡ b → (c.depth ≤ (if b then deepest cs else c.depth)) × (deepest cs ≤ (if b then deepest cs else c.depth))
    by true is = let lt = ltb-true c.depth (deepest cs) is in (omega (arith, lt), omega arith)
    by false is = let le = ltb-false c.depth (deepest cs) is in (omega arith, omega (arith, le))

deep_at : (cs : List (Option PathClass)) (n : ℕ) (c : PathClass) → get_or cs n None ≡ Some c → c.depth ≤ deepest cs
deep_at [] n c is = cc
deep_at (o ∷ cs) zero c is = subst (λ o. c.depth ≤ deepest (o ∷ cs)) (sym is) (deep_more c cs).0
deep_at (None ∷ cs) (suc n) c is = deep_at cs n c is
deep_at (Some d ∷ cs) (suc n) c is = let one = deep_at cs n c is in let two = (deep_more d cs).1 in omega (arith, one, two)

-- the sum of k times a number, and powers
abbrev pub times : ℕ → ℕ → ℕ
times zero p = 0
times (suc k) p = p + times k p

abbrev pub power : ℕ → ℕ → ℕ
power b zero = 1
power b (suc k) = times b (power b k)

some_power : (b k : ℕ) → 1 ≤ power (suc b) k
some_power b zero = omega arith
some_power b (suc k) = let more = some_power b k in omega (arith, more)

-- what counts for a class that waits: more than for all classes that may wait for it
abbrev pub weight : ClassKinds → ℕ → ℕ
weight k n = power (suc (length k.0)) (suc (deepest k.0 - depth_at k n))

weights_few : (k : ClassKinds) (p most : ℕ) (ns : List ℕ) → AllByRecursion (λ m. weight k m ≡ p) ns → length ns ≤ most → sum_by (weight k) ns ≤ times most p
weights_few k p most [] h few = omega arith
weights_few k p zero (n ∷ ns) h few = absurd (omega (arith, few))
weights_few k p (suc most) (n ∷ ns) h few =
    let more = weights_few k p most ns h.1 (omega (arith, few)) in
    let one = h.0 in
    let sum = sum_by-cons (weight k) n ns in
    omega (arith, more, one, sum)

module _ (rows : KindsOf LabelRow) (k : ClassKinds) (linked : AreLinked rows k) (n : ℕ) where
  -- a class right below another one weighs a power less
  weight_below : (m : ℕ) → IsBelow k n m → weight k m ≡ power (suc (length k.0)) (deepest k.0 - depth_at k n)
  weight_below m (used, (c, (is, above))) =
      let l = linked m c used is in
      let deep : depth_at k m ≡ c.depth = ap (λ o. option_map_or (λ (c : PathClass). c.depth) o 0) is in
      let deeper : depth_at k m ≡ suc (depth_at k n) = deep ∙ l.depth ∙ ap (depth_below k) above in
      let most : c.depth ≤ deepest k.0 = deep_at k.0 m c is in
      let steps : suc (deepest k.0 - depth_at k m) ≡ deepest k.0 - depth_at k n = omega (arith, deep, deeper, most) in
      ap (power (suc (length k.0))) steps

  all_weights : (ns : List ℕ) → AllByRecursion (IsBelow k n) ns → AllByRecursion (λ m. weight k m ≡ power (suc (length k.0)) (deepest k.0 - depth_at k n)) ns
  all_weights [] h = tt
  all_weights (m ∷ ns) h = (weight_below m h.0, all_weights ns h.1)

  weight_less : (below : List ℕ) → AllByRecursion (IsBelow k n) below → length below ≤ length k.0 → sum_by (weight k) below < weight k n
  weight_less below are few =
      let p = power (suc (length k.0)) (deepest k.0 - depth_at k n) in
      let most = weights_few k p (length k.0) below (all_weights below are) few in
      let some = some_power (length k.0) (deepest k.0 - depth_at k n) in
      omega (arith, most, some)

-- the same of the loop, by what it reads and what it writes
module _ (rows : KindsOf LabelRow) (before old : ClassKinds) (linked : AreLinked rows before) (waiting changed : List ℕ) (at n : ℕ) (lt : at < length waiting) (is : n ≡ get_or waiting at n)
    (w : Awaits rows before old (drop at waiting) changed) where
  abbrev first : Awaits rows before old (n ∷ drop (at + 1) waiting) changed
  first = subst (λ l. Awaits rows before old l changed) (drop-cons waiting at n lt ∙ (λ i. sym is i ∷ drop (sym (add-one at) i) waiting)) w

  pub step_linked : IsLinkedAt rows old n
  step_linked = linked_first rows before old linked n (drop (at + 1) waiting) changed first

  module _ (more noted : List ℕ) (new : ClassKinds) (r : RenewsOne rows before old n waiting changed more noted new) where
    pub step_awaits : Awaits rows before new (drop (at + 1) more) noted
    step_awaits =
        let le : at + 1 ≤ length waiting = omega (arith, lt) in
        subst (λ l. Awaits rows before new l noted) (sym (ap (drop (at + 1)) r.pushed ∙ drop-append-le (at + 1) waiting r.below le)) (r.awaits (drop (at + 1) waiting) first)

    pub step_within : at + 1 ≤ length more
    step_within = let long = ap length r.pushed ∙ length-append waiting r.below in omega (arith, lt, long)

    -- those that wait weigh less
    pub step_smaller : sum_by (weight before) (drop (at + 1) more) < sum_by (weight before) (drop at waiting)
    step_smaller =
        let less = weight_less rows before linked n r.below r.are r.few in
        let le : at + 1 ≤ length waiting = omega (arith, lt) in
        let left : sum_by (weight before) (drop (at + 1) more) ≡ sum_by (weight before) (drop (at + 1) waiting) + sum_by (weight before) r.below =
        ap (λ l. sum_by (weight before) (drop (at + 1) l)) r.pushed ∙ ap (sum_by (weight before)) (drop-append-le (at + 1) waiting r.below le)
        ∙ sum_by-append (weight before) (drop (at + 1) waiting) r.below in
        let right : sum_by (weight before) (drop at waiting) ≡ weight before n + sum_by (weight before) (drop (at + 1) waiting) =
        ap (sum_by (weight before)) (drop-cons waiting at n lt) ∙ sum_by-cons (weight before) (get_or waiting at n) (drop (suc at) waiting)
        ∙ (λ i. weight before (sym is i) + sum_by (weight before) (drop (sym (add-one at) i) waiting)) in
        omega (arith, less, left, right)
