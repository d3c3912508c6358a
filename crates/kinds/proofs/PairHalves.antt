-- Parts in two halves: what is in each of them, and in both.
use Rattle.std.proofs.Common.{◌≡◌, ℕ, ◌+◌, ◌<◌, List, [], ◌∷◌, ◌++◌, length, map, get_or, take, drop, flat_map, refl, sym, ap, subst, ◌∙◌, arith}
use Rattle.std.proofs.Common.{append_assoc, append-nil, take-append-drop}
use Rattle.std.specs.List.{AllZip}
use Rattle.std.proofs.lemmas.Grind.{flat_map-append}
use Rattle.std.proofs.lemmas.List.{map-append}
use Rattle.kinds.specs.declared.pairs.pair.Pair.{Pair}
use Rattle.kinds.specs.declared.pairs.pair.Change.{Change}
use Rattle.kinds.specs.PairSets.{AreRising, seconds_of, pairs_named}
use Rattle.kinds.specs.PairParts.{changed, AreSplit, AreHalves}
use Rattle.kinds.proofs.PairLists.{rising_left, rising_right, before_first, from_first}
use Rattle.kinds.proofs.PairChanges.{changed_join}
use Rattle.kinds.proofs.PairSeconds.{seconds_join, seconds_before, seconds_from}

module _ {A : Type 0} (f : A → List Pair) where
  -- parts begin with the first pair of their first part
  begins : (parts : List A) (part : A) (m : Pair) → 0 < length parts → part ≡ get_or parts 0 part → take 1 (f part) ≡ m ∷ [] → (rest : List Pair) × (flat_map f parts ≡ m ∷ rest)
  begins [] part m some is h = absurd (omega arith)
  begins (x ∷ parts) part m some is h = by (f x) (subst (λ y. take 1 (f y) ≡ m ∷ []) is h)
    where
      by : (xs : List Pair) → take 1 xs ≡ m ∷ [] → (rest : List Pair) × (xs ++ flat_map f parts ≡ m ∷ rest)
      by [] e = let bad : ⊥ = cc in absurd bad
      by (y ∷ ys) e = let same : y ≡ m = cc in (ys ++ flat_map f parts, ap (λ z. z ∷ (ys ++ flat_map f parts)) same)

  pub halves_of : (parts left right : List A) (n : ℕ) (part : A) (m : Pair) → left ≡ take n parts → right ≡ drop n parts → length left ≡ n → length right + n ≡ length parts
      → 0 < n → n < length parts → part ≡ get_or right 0 part → take 1 (f part) ≡ m ∷ [] → AreRising (flat_map f parts) → AreHalves f m left right parts
  halves_of parts left right n part m is_left is_right left_len right_len some less is h rising =
      let joined : flat_map f left ++ flat_map f right ≡ flat_map f parts =
      sym (flat_map-append f left right) ∙ ap (flat_map f) ((λ i. is_left i ++ is_right i) ∙ take-append-drop n parts)
      in
      let whole : AreRising (flat_map f left ++ flat_map f right) = subst AreRising (sym joined) rising in
      let first = begins right part m (omega arith) is h in
      record {
        joined = joined;
        before = before_first (flat_map f left) (flat_map f right) first.0 m whole first.1;
        from = from_first (flat_map f right) first.0 m (rising_right (flat_map f left) (flat_map f right) whole) first.1;
        some_left = omega arith;
        some_right = omega arith;
        less_left = omega arith;
        less_right = omega arith;
      }

  module _ (m : Pair) (left right parts : List A) (h : AreHalves f m left right parts) where
    pub rising_halves : AreRising (flat_map f parts) → AreRising (flat_map f left) × AreRising (flat_map f right)
    rising_halves rising =
        let whole : AreRising (flat_map f left ++ flat_map f right) = subst AreRising (sym h.joined) rising in
        (rising_left (flat_map f left) (flat_map f right) whole, rising_right (flat_map f left) (flat_map f right) whole)

    pub seconds_in_both : (n : ℕ) → seconds_of n (flat_map f left) ++ seconds_of n (flat_map f right) ≡ seconds_of n (flat_map f parts)
    seconds_in_both n = sym (seconds_join n (flat_map f left) (flat_map f right)) ∙ ap (seconds_of n) h.joined

    pub seconds_in_left : (n : ℕ) → n < m.first → seconds_of n (flat_map f left) ≡ seconds_of n (flat_map f parts)
    seconds_in_left n lt =
        sym (append-nil (seconds_of n (flat_map f left))) ∙ ap (λ l. seconds_of n (flat_map f left) ++ l) (sym (seconds_from n m (flat_map f right) h.from lt)) ∙ seconds_in_both n

    pub seconds_in_right : (n : ℕ) → m.first < n → seconds_of n (flat_map f right) ≡ seconds_of n (flat_map f parts)
    seconds_in_right n lt = ap (λ l. l ++ seconds_of n (flat_map f right)) (sym (seconds_before n m (flat_map f left) h.before lt)) ∙ seconds_in_both n

    pub changed_in_both : (cs first last : List Change) → AreSplit m first last cs → changed first (flat_map f left) ++ changed last (flat_map f right) ≡ changed cs (flat_map f parts)
    changed_in_both cs first last s =
        sym (changed_join m first last (flat_map f left) (flat_map f right) s.before s.from h.before h.from) ∙ (λ i. changed (s.joined i) (h.joined i))

  pub no_part : (parts : List A) → length parts ≡ 0 → flat_map f parts ≡ []
  no_part [] is = refl
  no_part (x ∷ parts) is = absurd (omega arith)

  -- one part more
  pub one_more_part : (new : List A) (part : A) (xs rest : List Pair) → f part ++ rest ≡ xs → flat_map f (new ++ part ∷ []) ++ rest ≡ flat_map f new ++ xs
  one_more_part new part xs rest h =
      ap (λ l. l ++ rest) (flat_map-append f new (part ∷ []))
      ∙ ap (λ l. (flat_map f new ++ l) ++ rest) (append-nil (f part))
      ∙ append_assoc (flat_map f new) (f part) rest
      ∙ ap (λ l. flat_map f new ++ l) h

  pub joined_parts : (n : ℕ) (parts front back : List A) → front ≡ take n parts → back ≡ drop n parts → flat_map f front ++ flat_map f back ≡ flat_map f parts
  joined_parts n parts front back is_front is_back = sym (flat_map-append f front back) ∙ ap (flat_map f) ((λ i. is_front i ++ is_back i) ∙ take-append-drop n parts)

-- the pairs named by changes before a place, and from it on
pub rising_split : (m : Pair) (cs first last : List Change) → AreSplit m first last cs → AreRising (pairs_named cs) → AreRising (pairs_named first) × AreRising (pairs_named last)
rising_split m cs first last s rising =
    let whole : AreRising (pairs_named first ++ pairs_named last) = subst AreRising (ap pairs_named (sym s.joined) ∙ map-append (λ c. c.pair) first last) rising in
    (rising_left (pairs_named first) (pairs_named last) whole, rising_right (pairs_named first) (pairs_named last) whole)

module _ {A B C : Type 0} (v : A → B) (f : B → List C) where
  parts_seen : (xs : List A) → flat_map (λ x. f (v x)) xs ≡ flat_map f (map v xs)
  parts_seen [] = refl
  parts_seen (x ∷ xs) = ap (λ l. f (v x) ++ l) (parts_seen xs)

  -- what shared parts have is what their values have
  pub parts_added : (new old more : List A) → map v new ≡ map v old ++ map v more → flat_map (λ x. f (v x)) new ≡ flat_map (λ x. f (v x)) old ++ flat_map (λ x. f (v x)) more
  parts_added new old more h =
      parts_seen new ∙ ap (λ l. flat_map f l) h ∙ flat_map-append f (map v old) (map v more) ∙ (λ i. sym (parts_seen old) i ++ sym (parts_seen more) i)

  -- clones of pointers have the same
  pub same_parts : (xs ys : List A) → AllZip (λ x y. v y ≡ v x) xs ys → flat_map (λ x. f (v x)) ys ≡ flat_map (λ x. f (v x)) xs
  same_parts [] [] h = refl
  same_parts [] (y ∷ ys) h = absurd h
  same_parts (x ∷ xs) [] h = absurd h
  same_parts (x ∷ xs) (y ∷ ys) h = ap (λ z. f z ++ flat_map (λ x. f (v x)) ys) h.0 ∙ ap (λ l. f (v x) ++ l) (same_parts xs ys h.1)

pub nil_of : {A : Type 0} (xs : List A) → length xs ≡ 0 → xs ≡ []
nil_of [] is = refl
nil_of (x ∷ xs) is = absurd (omega arith)
