-- Pairs with some put and others taken out: in two parts, in order, and which pairs are there.
use Rattle.std.proofs.Common.{◌≡◌, ◌||◌, ◌&&◌, Bool, true, false, true≢false, cond, List, [], ◌∷◌, ◌++◌, map, filter, refl, sym, ap, subst, ◌∙◌, append_assoc, append-nil}
use Rattle.std.proofs.lemmas.List.Elements.{filter-append}
use Rattle.std.specs.List.{AllByRecursion}
use Rattle.kinds.specs.declared.pairs.pair.Pair.{Pair}
use Rattle.kinds.specs.declared.pairs.pair.Change.{Change}
use Rattle.kinds.specs.PairSets.{is_before, is_same, AreAfter, AreRising, has, pairs_named, is_there}
use Rattle.kinds.specs.PairParts.{changed, AreBefore, AreFrom}
use Rattle.kinds.proofs.PairOrder.{not_after, not_itself, before_trans, same_pair, is_same-false, is_same-later, is_same-true}
use Rattle.kinds.proofs.PairLists.{all_join, all_filter, all_weaker, all_pass, after_before, before_after, from_after, earlier_all, earlier_none, later_all, later_none}
use Rattle.kinds.proofs.PairLists.{rising_filter, rising_join, or_false, has_join, has_filter}

abbrev pub put_of : Change → List Pair
put_of c = cond c.is_put (c.pair ∷ []) []

abbrev pub earlier : Change → List Pair → List Pair
earlier c xs = filter (λ p. is_before p c.pair) xs

abbrev pub later : Change → List Pair → List Pair
later c xs = filter (λ p. is_before c.pair p) xs

changed_from : (m : Pair) (cs : List Change) (xs ys : List Pair) → AreFrom m (pairs_named cs) → AreBefore m xs → changed cs (xs ++ ys) ≡ xs ++ changed cs ys
changed_from m [] xs ys f b = refl
changed_from m (c ∷ cs) xs ys f b =
    let within : AreBefore c.pair xs = before_after m c.pair xs b f.0 in
    let front : earlier c (xs ++ ys) ≡ xs ++ earlier c ys = filter-append (λ p. is_before p c.pair) xs ys ∙ ap (λ l. l ++ earlier c ys) (earlier_all c.pair xs within) in
    let back : later c (xs ++ ys) ≡ later c ys = filter-append (λ p. is_before c.pair p) xs ys ∙ ap (λ l. l ++ later c ys) (later_none c.pair xs within) in
    (λ i. front i ++ (put_of c ++ changed cs (back i))) ∙ append_assoc xs (earlier c ys) (put_of c ++ changed cs (later c ys))

-- the changes before a pair are of the pairs before it
pub changed_join : (m : Pair) (bs cs : List Change) (xs ys : List Pair) → AreBefore m (pairs_named bs) → AreFrom m (pairs_named cs) → AreBefore m xs → AreFrom m ys
    → changed (bs ++ cs) (xs ++ ys) ≡ changed bs xs ++ changed cs ys
changed_join m [] cs xs ys bb fc bx fy = changed_from m cs xs ys fc bx
changed_join m (b ∷ bs) cs xs ys bb fc bx fy =
    let after : AreAfter b.pair ys = after_before b.pair m ys bb.0 fy in
    let front : earlier b (xs ++ ys) ≡ earlier b xs =
    filter-append (λ p. is_before p b.pair) xs ys ∙ ap (λ l. earlier b xs ++ l) (earlier_none b.pair ys (from_after b.pair ys after)) ∙ append-nil (earlier b xs)
    in
    let back : later b (xs ++ ys) ≡ later b xs ++ ys = filter-append (λ p. is_before b.pair p) xs ys ∙ ap (λ l. later b xs ++ l) (later_all b.pair ys after) in
    let rest : changed (bs ++ cs) (later b (xs ++ ys)) ≡ changed bs (later b xs) ++ changed cs ys =
    ap (λ l. changed (bs ++ cs) l) back ∙ changed_join m bs cs (later b xs) ys bb.1 fc (all_filter (λ q. is_before q m ≡ true) (λ p. is_before b.pair p) xs bx) fy
    in
    (λ i. front i ++ (put_of b ++ rest i))
    ∙ ap (λ l. earlier b xs ++ l) (sym (append_assoc (put_of b) (changed bs (later b xs)) (changed cs ys)))
    ∙ sym (append_assoc (earlier b xs) (put_of b ++ changed bs (later b xs)) (changed cs ys))

pub changed_all : (P : Pair → Type 0) (cs : List Change) (xs : List Pair) → AllByRecursion P (pairs_named cs) → AllByRecursion P xs → AllByRecursion P (changed cs xs)
changed_all P [] xs h k = k
changed_all P (c ∷ cs) xs h k =
    all_join P (earlier c xs) (put_of c ++ changed cs (later c xs)) (all_filter P (λ p. is_before p c.pair) xs k)
    (all_join P (put_of c) (changed cs (later c xs)) (by c.is_put) (changed_all P cs (later c xs) h.1 (all_filter P (λ p. is_before c.pair p) xs k)))
  where
    by : (b : Bool) → AllByRecursion P (cond b (c.pair ∷ []) [])
    by true = (h.0, tt)
    by false = tt

pub changed_rising : (cs : List Change) (xs : List Pair) → AreRising (pairs_named cs) → AreRising xs → AreRising (changed cs xs)
changed_rising [] xs h k = k
changed_rising (c ∷ cs) xs h k =
    let after : AreAfter c.pair (changed cs (later c xs)) = changed_all (λ q. is_before c.pair q ≡ true) cs (later c xs) h.0 (all_pass (λ p. is_before c.pair p) xs) in
    let rest : AreRising (changed cs (later c xs)) = changed_rising cs (later c xs) h.1 (rising_filter (λ p. is_before c.pair p) xs k) in
    rising_join c.pair (earlier c xs) (put_of c ++ changed cs (later c xs)) (all_pass (λ p. is_before p c.pair) xs)
    (all_join (λ q. is_before q c.pair ≡ false) (put_of c) (changed cs (later c xs)) (from_put c.is_put) (from_after c.pair (changed cs (later c xs)) after))
    (rising_filter (λ p. is_before p c.pair) xs k) (rising_put c.is_put after rest)
  where
    from_put : (b : Bool) → AreFrom c.pair (cond b (c.pair ∷ []) [])
    from_put true = (not_itself c.pair, tt)
    from_put false = tt

    rising_put : (b : Bool) → AreAfter c.pair (changed cs (later c xs)) → AreRising (changed cs (later c xs)) → AreRising (cond b (c.pair ∷ []) [] ++ changed cs (later c xs))
    rising_put true after rest = (after, rest)
    rising_put false after rest = rest

-- a pair that no change names is there as before
not_named : (p : Pair) (cs : List Change) (was : Bool) → AreAfter p (pairs_named cs) → is_there p cs was ≡ was
not_named p [] was h = refl
not_named p (c ∷ cs) was h = λ i. cond (is_same-later p c.pair h.0 i) c.is_put (not_named p cs was h.1 i)

has_put : (p : Pair) (c : Change) → has p (put_of c) ≡ (is_same c.pair p && c.is_put)
has_put p c = by c.is_put ∙ swap (is_same c.pair p) c.is_put
  where
    by : (d : Bool) → has p (cond d (c.pair ∷ []) []) ≡ (d && is_same c.pair p)
    by true = or_false (is_same c.pair p)
    by false = refl

    swap : (s d : Bool) → (d && s) ≡ (s && d)
    swap true true = refl
    swap true false = refl
    swap false true = refl
    swap false false = refl

pub changed_has : (p : Pair) (cs : List Change) (xs : List Pair) → AreRising (pairs_named cs) → has p (changed cs xs) ≡ is_there p cs (has p xs)
changed_has p [] xs h = refl
changed_has p (c ∷ cs) xs h =
    let rest : has p (changed cs (later c xs)) ≡ is_there p cs (is_before c.pair p && has p xs) =
    changed_has p cs (later c xs) h.1 ∙ ap (λ b. is_there p cs b) (has_filter (λ q. is_before c.pair q) p xs)
    in
    has_join p (earlier c xs) (put_of c ++ changed cs (later c xs))
    ∙ (λ i. has_filter (λ q. is_before q c.pair) p xs i || (has_join p (put_of c) (changed cs (later c xs)) ∙ (λ j. has_put p c j || rest j)) i)
    ∙ by (is_before p c.pair) refl (is_before c.pair p) refl
  where
    by : (a : Bool) → is_before p c.pair ≡ a → (b : Bool) → is_before c.pair p ≡ b
        → ((a && has p xs) || ((is_same c.pair p && c.is_put) || is_there p cs (b && has p xs))) ≡ cond (is_same c.pair p) c.is_put (is_there p cs (has p xs))
    by true lt true gt = absurd (true≢false (sym gt ∙ not_after p c.pair lt))
    by true lt false gt =
        let other : is_same c.pair p ≡ false = is_same-later p c.pair lt in
        let after : AreAfter p (pairs_named cs) = all_weaker (λ q. is_before c.pair q ≡ true) (λ q. is_before p q ≡ true) (λ q k. before_trans p c.pair q lt k) (pairs_named cs) h.0 in
        (λ i. has p xs || ((other i && c.is_put) || not_named p cs false after i))
        ∙ or_false (has p xs)
        ∙ sym (λ i. cond (other i) c.is_put (not_named p cs (has p xs) after i))
    by false lt true gt =
        let other : is_same c.pair p ≡ false = is_same-false c.pair p gt in
        (λ i. (other i && c.is_put) || is_there p cs (has p xs)) ∙ sym (λ i. cond (other i) c.is_put (is_there p cs (has p xs)))
    by false lt false gt =
        let same : is_same c.pair p ≡ true = is_same-true c.pair p gt lt in
        let after : AreAfter p (pairs_named cs) = subst (λ q. AreAfter q (pairs_named cs)) (same_pair c.pair p same) h.0 in
        (λ i. (same i && c.is_put) || not_named p cs false after i)
        ∙ or_false c.is_put
        ∙ sym (λ i. cond (same i) c.is_put (is_there p cs (has p xs)))

-- no changes
pub changed_none : (cs : List Change) (xs : List Pair) → cs ≡ [] → changed cs xs ≡ xs
changed_none cs xs none = ap (λ l. changed l xs) none

-- the same change of each of some pairs
module _ (is_put : Bool) where
  abbrev pub each_changed : List Pair → List Change
  each_changed ps = map (λ p. record { pair = p; is_put = is_put }) ps

  pub named_each : (ps : List Pair) → pairs_named (each_changed ps) ≡ ps
  named_each [] = refl
  named_each (p ∷ ps) = ap (λ qs. p ∷ qs) (named_each ps)

  pub there_each : (p : Pair) (ps : List Pair) (was : Bool) → is_there p (each_changed ps) was ≡ cond (has p ps) is_put was
  there_each p [] was = refl
  there_each p (q ∷ ps) was = ap (λ b. cond (is_same q p) is_put b) (there_each p ps was) ∙ by (is_same q p)
    where
      by : (a : Bool) → cond a is_put (cond (has p ps) is_put was) ≡ cond (a || has p ps) is_put was
      by true = refl
      by false = refl
