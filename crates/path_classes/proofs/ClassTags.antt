-- Classes by their tags.
use Rattle.std.proofs.Common.{◌≡◌, ℕ, zero, suc, ◌+◌, ◌*◌, ◌%◌, ◌<◌, ◌≤◌, Bool, true, false, ◌||◌, ◌&&◌, List, [], ◌∷◌, length, map, eqb, nat_cmp, is_some}
use Rattle.std.proofs.Common.{nat_lt, Option, Some, None, Less, get_or, refl, sym, ap, ◌∙◌, arith, ltb-true}
use Rattle.std.proofs.Math.Dec.{eqb→eq, eqb_refl}
use Rattle.std.specs.Prelude.{◌==◌, ◌^◌, if◌then◌else◌}
use Rattle.std.specs.List.{AllByRecursion}
use Rattle.std.specs.List.Sorted.{IsStrictlySortedBy, IsStrictlyIncreasing}
use Rattle.std.specs.Option.{option_map_or}
use Rattle.std.proofs.lemmas.List.Folds.{list_any-append}
use Rattle.std.proofs.lemmas.Map.Keys.{sorted_from_strictly_increasing}
use Rattle.acl_names.proofs.Basics.{to_T, from_T}
use Rattle.kinds.specs.Kinds.{node_at, count_at}
use Rattle.kinds.specs.Given.{used_at}
use Rattle.kinds.specs.Tagged.{meets, tags_at}
use Rattle.kinds.proofs.Tags.{all_one}
use Rattle.path_classes.specs.declared.path_class.PathClass.{PathClass}
use Rattle.path_classes.specs.PathClasses.{ClassKinds}
use Rattle.path_classes.specs.ClassTags.{label_tag, below_tag, search_tags, above_tags, pair_hash, pair_tag, class_tags}
use Rattle.path_classes.specs.FoundClasses.{is_searched_of, is_below_some}
use Rattle.path_classes.specs.Renewing.{is_one, IsBelow, is_just_below, is_right_below, AreBelow, AreClassesOf}

-- ---- tags of three sorts do not meet

eqb_apart : (a b : ℕ) → (a ≡ b → ⊥) → eqb a b ≡ false
eqb_apart a b other = by (eqb a b) refl
  where
    by : (c : Bool) → eqb a b ≡ c → eqb a b ≡ false
    by true is = absurd (other (eqb→eq a b (to_T (eqb a b) is)))
    by false is = is

eqb_equal : (a b : ℕ) → a ≡ b → eqb a b ≡ true
eqb_equal a b e = ap (eqb a) (sym e) ∙ from_T (eqb a a) (eqb_refl a)

eqb_like : (a b c d : ℕ) → (a ≡ b → c ≡ d) → (c ≡ d → a ≡ b) → eqb a b ≡ eqb c d
eqb_like a b c d f g = by (eqb a b) (eqb c d) refl refl
  where
    by : (x y : Bool) → eqb a b ≡ x → eqb c d ≡ y → eqb a b ≡ eqb c d
    by true true p q = p ∙ sym q
    by false false p q = p ∙ sym q
    by true false p q = let no : true ≡ false = sym (eqb_equal c d (f (eqb→eq a b (to_T (eqb a b) p)))) ∙ q in cc
    by false true p q = let no : true ≡ false = sym (eqb_equal a b (g (eqb→eq c d (to_T (eqb c d) q)))) ∙ p in cc

label_itself : (k l : ℕ) → eqb (3 * k) (3 * l) ≡ eqb k l
label_itself k l = eqb_like (3 * k) (3 * l) k l (λ e. omega (arith, e)) (λ e. omega (arith, e))

below_itself : (a n : ℕ) → eqb (3 * a + 1) (3 * n + 1) ≡ eqb a n
below_itself a n = eqb_like (3 * a + 1) (3 * n + 1) a n (λ e. omega (arith, e)) (λ e. omega (arith, e))

pub eqb_swap : (a n : ℕ) → eqb a n ≡ eqb n a
eqb_swap a n = eqb_like a n n a (λ e. sym e) (λ e. sym e)

zero_one : (k n : ℕ) → eqb (3 * k) (3 * n + 1) ≡ false
zero_one k n = eqb_apart (3 * k) (3 * n + 1) (λ e. omega (arith, e))

one_zero : (n k : ℕ) → eqb (3 * n + 1) (3 * k) ≡ false
one_zero n k = eqb_apart (3 * n + 1) (3 * k) (λ e. omega (arith, e))

one_two : (k n : ℕ) → eqb (3 * k + 1) (3 * n + 2) ≡ false
one_two k n = eqb_apart (3 * k + 1) (3 * n + 2) (λ e. omega (arith, e))

zero_two : (k n : ℕ) → eqb (3 * k) (3 * n + 2) ≡ false
zero_two k n = eqb_apart (3 * k) (3 * n + 2) (λ e. omega (arith, e))

or_false : (b : Bool) → (b || false) ≡ b
or_false true = refl
or_false false = refl

-- tags are of three sorts
by_sorts : (searched : Bool) (above : Option ℕ) (kind : ℕ) (ts : List ℕ)
    → meets (class_tags searched above kind) ts ≡ (is_one (pair_tag above kind) ts || (meets (search_tags searched kind) ts || meets (above_tags above) ts))
by_sorts searched above kind ts = ap (λ b. is_one (pair_tag above kind) ts || b) (list_any-append (λ n. is_one n ts) (search_tags searched kind) (above_tags above))

labels_one : (k : ℕ) (ls : List ℕ) → is_one (label_tag k) (map label_tag ls) ≡ is_one k ls
labels_one k [] = refl
labels_one k (l ∷ ls) = λ i. label_itself l k i || labels_one k ls i

labels_below : (a : ℕ) (ls : List ℕ) → is_one (below_tag a) (map label_tag ls) ≡ false
labels_below a [] = refl
labels_below a (l ∷ ls) = (λ i. zero_one l a i || is_one (below_tag a) (map label_tag ls)) ∙ labels_below a ls

labels_pair : (h : ℕ) (ls : List ℕ) → is_one (3 * h + 2) (map label_tag ls) ≡ false
labels_pair h [] = refl
labels_pair h (l ∷ ls) = (λ i. zero_two l h i || is_one (3 * h + 2) (map label_tag ls)) ∙ labels_pair h ls

labels_above : (above : Option ℕ) (ls : List ℕ) → meets (above_tags above) (map label_tag ls) ≡ false
labels_above None ls = refl
labels_above (Some a) ls = or_false (is_one (below_tag a) (map label_tag ls)) ∙ labels_below a ls

labels_search : (searched : Bool) (kind : ℕ) (ls : List ℕ) → meets (search_tags searched kind) (map label_tag ls) ≡ (searched && is_one kind ls)
labels_search false kind ls = refl
labels_search true kind ls = or_false (is_one (label_tag kind) (map label_tag ls)) ∙ labels_one kind ls

-- a class has the tag of its label alone, if it keeps who can search
labels_tags : (ls : List ℕ) (searched : Bool) (above : Option ℕ) (kind : ℕ) → meets (class_tags searched above kind) (map label_tag ls) ≡ (searched && is_one kind ls)
labels_tags ls searched above kind =
    by_sorts searched above kind (map label_tag ls)
    ∙ (λ i. labels_pair (pair_hash above kind % 2 ^ 30) ls i || (labels_search searched kind ls i || labels_above above ls i))
    ∙ or_false (searched && is_one kind ls)

below_one : (a : ℕ) (ns : List ℕ) → is_one (below_tag a) (map below_tag ns) ≡ is_one a ns
below_one a [] = refl
below_one a (n ∷ ns) = λ i. below_itself n a i || below_one a ns i

below_label : (k : ℕ) (ns : List ℕ) → is_one (label_tag k) (map below_tag ns) ≡ false
below_label k [] = refl
below_label k (n ∷ ns) = (λ i. one_zero n k i || is_one (label_tag k) (map below_tag ns)) ∙ below_label k ns

below_pair : (h : ℕ) (ns : List ℕ) → is_one (3 * h + 2) (map below_tag ns) ≡ false
below_pair h [] = refl
below_pair h (n ∷ ns) = (λ i. one_two n h i || is_one (3 * h + 2) (map below_tag ns)) ∙ below_pair h ns

some_above : (above : Option ℕ) (ns : List ℕ) → meets (above_tags above) (map below_tag ns) ≡ option_map_or (λ a. is_one a ns) above false
some_above None ns = refl
some_above (Some a) ns = or_false (is_one (below_tag a) (map below_tag ns)) ∙ below_one a ns

below_search : (searched : Bool) (kind : ℕ) (ns : List ℕ) → meets (search_tags searched kind) (map below_tag ns) ≡ false
below_search false kind ns = refl
below_search true kind ns = or_false (is_one (label_tag kind) (map below_tag ns)) ∙ below_label kind ns

below_some : (ns : List ℕ) (searched : Bool) (above : Option ℕ) (kind : ℕ) → meets (class_tags searched above kind) (map below_tag ns) ≡ option_map_or (λ a. is_one a ns) above false
below_some ns searched above kind =
    by_sorts searched above kind (map below_tag ns)
    ∙ (λ i. below_pair (pair_hash above kind % 2 ^ 30) ns i || (below_search searched kind ns i || some_above above ns i))

-- a class has the tag of the class above alone
pub below_tags : (n : ℕ) (searched : Bool) (above : Option ℕ) (kind : ℕ) → meets (class_tags searched above kind) (below_tag n ∷ []) ≡ option_map_or (λ a. a == n) above false
below_tags n searched above kind = below_some (n ∷ []) searched above kind ∙ by above
  where
    by : (above : Option ℕ) → option_map_or (λ a. is_one a (n ∷ [])) above false ≡ option_map_or (λ a. a == n) above false
    by None = refl
    by (Some a) = or_false (eqb n a) ∙ eqb_swap n a

-- ---- numbers that rise

less_is : (n m : ℕ) → nat_cmp n m ≡ Less → suc n ≤ m
less_is n m h = grind (arith, h)

after_all : (n : ℕ) (ms : List ℕ) → AllByRecursion (λ m. nat_cmp n m ≡ Less) ms → AllByRecursion (λ m. suc n ≤ m) ms
after_all n [] h = tt
after_all n (m ∷ ms) h = (less_is n m h.0, after_all n ms h.1)

-- numbers that rise from one to another are no more than what is between
rising_few : (a end : ℕ) (ns : List ℕ) → IsStrictlySortedBy nat_cmp ns → AllByRecursion (λ n. a ≤ n) ns → AllByRecursion (λ n. n < end) ns → a ≤ end → a + length ns ≤ end
unfolding IsStrictlySortedBy
rising_few a end [] rises from all le = omega (arith, le)
rising_few a end (n ∷ ns) rises from all le =
    let lt = all.0 in
    let le = from.0 in
    let rest = rising_few (suc n) end ns rises.1 (after_all n ns rises.0) all.1 (omega (arith, lt)) in
    omega (arith, rest, le)

pub few_rising : (end : ℕ) (ns : List ℕ) → IsStrictlyIncreasing ns → ((n : ℕ) → is_one n ns ≡ true → n < end) → length ns ≤ end
few_rising end ns rises within =
    let most = rising_few 0 end ns (sorted_from_strictly_increasing ns rises) (all_one (λ n. 0 ≤ n) ns (λ n one. omega arith)) (all_one (λ n. n < end) ns within) (omega arith) in
    omega (arith, most)

-- ---- classes of paths

module _ (k : ClassKinds) where
  abbrev tags_here : ℕ → List ℕ
  tags_here n = tags_at (λ (c : PathClass). class_tags (is_some c.search) c.above c.kind) k n

  below_used : (n : ℕ) (o : Option PathClass) → meets (option_map_or (λ (c : PathClass). class_tags (is_some c.search) c.above c.kind) o []) (below_tag n ∷ []) ≡ is_just_below n o
  below_used n None = refl
  below_used n (Some c) = below_tags n (is_some c.search) c.above c.kind

  labels_used : (ls : List ℕ) (o : Option PathClass) → meets (option_map_or (λ (c : PathClass). class_tags (is_some c.search) c.above c.kind) o []) (map label_tag ls) ≡ is_searched_of ls o
  labels_used ls None = refl
  labels_used ls (Some c) = labels_tags ls (is_some c.search) c.above c.kind

  pub tagged_below : (n : ℕ) (below : List ℕ) → ((m : ℕ) → is_one m below ≡ meets (tags_here m) (below_tag n ∷ [])) → (m : ℕ) → is_one m below ≡ is_right_below k n m
  tagged_below n below exact m = exact m ∙ below_used n (used_at k m)

  some_used : (ns : List ℕ) (o : Option PathClass) → meets (option_map_or (λ (c : PathClass). class_tags (is_some c.search) c.above c.kind) o [])
      (map below_tag ns) ≡ option_map_or (is_below_some ns) o false
  some_used ns None = refl
  some_used ns (Some c) = below_some ns (is_some c.search) c.above c.kind

  pub tagged_below_some : (ns below : List ℕ) → ((m : ℕ) → is_one m below ≡ meets (tags_here m) (map below_tag ns)) → (m : ℕ) → is_one m below ≡ option_map_or (is_below_some ns) (used_at k m) false
  tagged_below_some ns below exact m = exact m ∙ some_used ns (used_at k m)

  pub tagged_labels : (ls ns : List ℕ) → ((m : ℕ) → is_one m ns ≡ meets (tags_here m) (map label_tag ls)) → (m : ℕ) → is_one m ns ≡ is_searched_of ls (used_at k m)
  tagged_labels ls ns exact m = exact m ∙ labels_used ls (used_at k m)

  pub used_is : (m : ℕ) (c : PathClass) → 0 < count_at k m → node_at k m ≡ Some c → used_at k m ≡ Some c
  used_is m c used is =
      let there : nat_lt 0 (count_at k m) ≡ true = grind (arith, used) in
      ap (λ b. if b then node_at k m else None) there ∙ is

  -- what is looked at is a class of paths
  used_some : (m : ℕ) (c : PathClass) → used_at k m ≡ Some c → (0 < count_at k m) × (node_at k m ≡ Some c)
  used_some m c is = by (nat_lt 0 (count_at k m)) refl is
    where
      by : (b : Bool) → nat_lt 0 (count_at k m) ≡ b → (if b then node_at k m else None) ≡ Some c → (0 < count_at k m) × (node_at k m ≡ Some c)
      by true lt h = (ltb-true 0 (count_at k m) lt, h)
      by false lt h = cc

  pub within : (os : List (Option PathClass)) (m : ℕ) (c : PathClass) → get_or os m None ≡ Some c → m < length os
  within [] m c is = cc
  within (o ∷ os) zero c is = omega arith
  within (o ∷ os) (suc m) c is = let lt = within os m c is in omega (arith, lt)

  just_below : (n m : ℕ) (o : Option PathClass) → used_at k m ≡ o → is_just_below n o ≡ true → IsBelow k n m
  just_below n m None is h = cc
  just_below n m (Some c) is h =
      let both = used_some m c is in
      (both.0, (c, (both.1, up c.above h)))
    where
      up : (above : Option ℕ) → option_map_or (λ a. eqb a n) above false ≡ true → above ≡ Some n
      up None h = cc
      up (Some a) h = ap Some (eqb→eq a n (to_T (eqb a n) h))

  -- numbers that rise, of classes right below one
  pub are_below : (n : ℕ) (below : List ℕ) → IsStrictlyIncreasing below → ((m : ℕ) → is_one m below ≡ is_right_below k n m) → AreBelow k n below
  are_below n below rises exact = record {
    all = λ m c used is above. exact m ∙ ap (is_just_below n) (used_is m c used is) ∙ ap (λ o. option_map_or (λ a. eqb a n) o false) above ∙ from_T (eqb n n) (eqb_refl n);
    each = all_one (IsBelow k n) below one;
    few = few_rising (length k.0) below rises (λ m h. let b = one m h in within k.0 m b.1.0 b.1.1.0);
  }
    where
      one : (m : ℕ) → is_one m below ≡ true → IsBelow k n m
      one m h = just_below n m (used_at k m) refl (sym (exact m) ∙ h)

  labelled : (ls : List ℕ) (m : ℕ) (o : Option PathClass) → used_at k m ≡ o → is_searched_of ls o ≡ true → 0 < count_at k m
  labelled ls m None is h = cc
  labelled ls m (Some c) is h = (used_some m c is).0

  -- those that have some labels and keep who can search
  pub are_labelled : (ls ns : List ℕ) → ((m : ℕ) → is_one m ns ≡ is_searched_of ls (used_at k m)) → AreClassesOf k ls ns
  are_labelled ls ns exact = record {
    all = λ m c used is some here. exact m ∙ ap (is_searched_of ls) (used_is m c used is) ∙ (λ i. some i && here i);
    used = all_one (λ m. 0 < count_at k m) ns (λ m h. labelled ls m (used_at k m) refl (sym (exact m) ∙ h));
  }
