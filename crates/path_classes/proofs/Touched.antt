-- Answers that stay as they were, and how many files may have others, by their classes.
use Rattle.std.proofs.Common.{◌≡◌, ℕ, suc, ◌+◌, ◌≤◌, Bool, true, false, not, ◌||◌, ◌&&◌, List, [], ◌∷◌, length, map, cond, Option, Some, None, refl, sym, ap, ◌∙◌, arith}
use Rattle.std.specs.Prelude.{count_by, option_map, slice_get}
use Rattle.std.specs.List.{AllByRecursion}
use Rattle.std.specs.Option.{option_map_or}
use Rattle.std.specs.FinMap.{find}
use Rattle.std.proofs.lemmas.List.Sums.{sum_by-cons}
use Rattle.acl_names.specs.Paths.{path_cmp, PathOf}
use Rattle.path_map.specs.Entries.{IsInOrder}
use Rattle.kinds.specs.Kinds.{node_at}
use Rattle.kinds.specs.Numbered.{Kept, Numbers, AreSound, entries_by, entries_in}
use Rattle.kinds.proofs.Chosen.{among_all}
use Rattle.kinds.proofs.EntriesBy.{all_weaker, entry_first}
use Rattle.path_classes.specs.declared.label_row.LabelRow.{LabelRow}
use Rattle.path_classes.specs.declared.path_class.PathClass.{PathClass}
use Rattle.path_classes.specs.ClassedRows.{SameAnswers, AreCounted, verdicts_at}
use Rattle.path_classes.specs.ClassesWithin.{is_inside, inside}
use Rattle.path_classes.specs.PathClasses.{ClassKinds, search_at, search_above, kind_at, class_above, HasClass, AreClasses}
use Rattle.path_classes.specs.Renewing.{is_one}
use Rattle.path_classes.specs.Searching.{gets_through}
use Rattle.path_classes.proofs.Growing.{some_is}
use Rattle.path_classes.proofs.Maps.{find-values}
use Rattle.path_classes.proofs.Reaching.{all_found, answer_is}

-- ---- counts

abbrev one_where : Bool → ℕ
one_where b = cond b 1 0

implied : (a b : Bool) → (a ≡ true → b ≡ true) → one_where a ≤ one_where b
implied false b h = omega arith
implied true true h = omega arith
implied true false h = let no : false ≡ true = h refl in cc

either : (a b c : Bool) → (a ≡ true → (b || c) ≡ true) → one_where a ≤ one_where b + one_where c
either false b c h = omega arith
either true true c h = omega arith
either true false true h = omega arith
either true false false h = let no : false ≡ true = h refl in cc

not_twice : (a b c : Bool) → (a ≡ true → c ≡ true) → (b ≡ true → c ≡ true) → (a ≡ true → b ≡ false) → one_where a + one_where b ≤ one_where c
not_twice false b c f g h = let one = implied b c g in omega (arith, one)
not_twice true true c f g h = let no : true ≡ false = h refl in cc
not_twice true false c f g h = let one = implied true c f in omega (arith, one)

pub count_none : {A : Type 0} (es : List (PathOf × A)) → count_by (λ (e : PathOf × A). false) es ≡ 0
count_none [] = refl
count_none {A} (e ∷ es) = let more = count_none es in let sum = sum_by-cons (λ (e : PathOf × A). one_where false) e es in omega (arith, more, sum)

-- a count of paths is that of the same paths with other numbers
count_valued : (f : PathOf → Bool) (g : ℕ → ℕ) (es : Numbers) → count_by (λ (e : PathOf × ℕ). f e.0) (map {B = PathOf × ℕ} (λ e. (e.0, g e.1)) es) ≡ count_by (λ (e : PathOf × ℕ). f e.0) es
count_valued f g [] = refl
count_valued f g (e ∷ es) =
    let more = count_valued f g es in
    let left = sum_by-cons (λ (e : PathOf × ℕ). one_where (f e.0)) (e.0, g e.1) (map {B = PathOf × ℕ} (λ e. (e.0, g e.1)) es) in
    let right = sum_by-cons (λ (e : PathOf × ℕ). one_where (f e.0)) e es in
    omega (arith, more, left, right)

-- a count of values is that of what they are made of
pub count_kinds : (f : ℕ → Bool) (g : ℕ → ℕ) (es : Numbers) → count_by (λ (e : PathOf × ℕ). f e.1) (map {B = PathOf × ℕ} (λ e. (e.0, g e.1)) es) ≡ count_by (λ (e : PathOf × ℕ). f (g e.1)) es
count_kinds f g [] = refl
count_kinds f g (e ∷ es) =
    let more = count_kinds f g es in
    let left = sum_by-cons (λ (e : PathOf × ℕ). one_where (f e.1)) (e.0, g e.1) (map {B = PathOf × ℕ} (λ e. (e.0, g e.1)) es) in
    let right = sum_by-cons (λ (e : PathOf × ℕ). one_where (f (g e.1))) e es in
    omega (arith, more, left, right)

or_else : (a b : Bool) → one_where a + one_where (b && not a) ≡ one_where (a || b)
or_else true true = refl
or_else true false = refl
or_else false true = refl
or_else false false = refl

-- numbers that pass one test, and others that pass another one
pub count_either : (a b : ℕ → Bool) (es : Numbers)
    → count_by (λ (e : PathOf × ℕ). a e.1) es + count_by (λ (e : PathOf × ℕ). b e.1 && not (a e.1)) es ≡ count_by (λ (e : PathOf × ℕ). a e.1 || b e.1) es
count_either a b [] = refl
count_either a b (e ∷ es) =
    let more = count_either a b es in
    let one = or_else (a e.1) (b e.1) in
    let first = sum_by-cons (λ (e : PathOf × ℕ). one_where (a e.1)) e es in
    let second = sum_by-cons (λ (e : PathOf × ℕ). one_where (b e.1 && not (a e.1))) e es in
    let both = sum_by-cons (λ (e : PathOf × ℕ). one_where (a e.1 || b e.1)) e es in
    omega (arith, more, one, first, second, both)

inside_valued : (tops : List PathOf) (g : ℕ → ℕ) (es : Numbers) → length (inside tops (map {B = PathOf × ℕ} (λ e. (e.0, g e.1)) es)) ≡ length (inside tops es)
inside_valued tops g [] = refl
inside_valued tops g (e ∷ es) = by (is_inside tops e.0) (inside_valued tops g es)
  where
    by : (b : Bool) → length (inside tops (map {B = PathOf × ℕ} (λ e. (e.0, g e.1)) es)) ≡ length (inside tops es)
        → length (cond b ((e.0, g e.1) ∷ inside tops (map {B = PathOf × ℕ} (λ e. (e.0, g e.1)) es)) (inside tops (map {B = PathOf × ℕ} (λ e. (e.0, g e.1)) es)))
        ≡ length (cond b (e ∷ inside tops es) (inside tops es))
    by true more = ap suc more
    by false more = more

-- paths of which some are counted by their numbers, the others by their classes
module _ (k : ClassKinds) (own : ℕ → Bool) (g : PathClass → Bool) where
  -- at least those that pass a test
  abbrev IsCounted : (PathOf → Bool) → PathOf × ℕ → Type 0
  IsCounted f e = (c : PathClass) × ((node_at k e.1 ≡ Some c) × (f e.0 ≡ true → (own e.1 || g c) ≡ true))

  count_least : (f : PathOf → Bool) (es : Numbers) → AllByRecursion (IsCounted f) es
      → count_by (λ (e : PathOf × ℕ). f e.0) es ≤ count_by (λ (e : PathOf × ℕ). own e.1) es + count_by (λ (e : PathOf × PathClass). g e.1) (entries_by k es)
  count_least f [] h = omega arith
  count_least f (e ∷ es) h =
      let c : PathClass = h.0.0 in
      let more = count_least f es h.1 in
      let left = sum_by-cons (λ (e : PathOf × ℕ). one_where (f e.0)) e es in
      let mine = sum_by-cons (λ (e : PathOf × ℕ). one_where (own e.1)) e es in
      let right = sum_by-cons (λ (e : PathOf × PathClass). one_where (g e.1)) (e.0, c) (entries_by k es) in
      let first = ap (count_by (λ (e : PathOf × PathClass). g e.1)) (entry_first k e es c h.0.1.0) in
      let one = either (f e.0) (own e.1) (g c) h.0.1.1 in
      omega (arith, more, left, mine, right, first, one)

  -- at most those inside
  pub record LiesInside (tops : List PathOf) (e : PathOf × ℕ) : Type 0 where
    pub class : PathClass
    pub is : node_at k e.1 ≡ Some class
    pub mine : own e.1 ≡ true → is_inside tops e.0 ≡ true
    pub others : g class ≡ true → is_inside tops e.0 ≡ true
    pub apart : own e.1 ≡ true → g class ≡ false

  count_most : (tops : List PathOf) (es : Numbers) → AllByRecursion (LiesInside tops) es
      → count_by (λ (e : PathOf × ℕ). own e.1) es + count_by (λ (e : PathOf × PathClass). g e.1) (entries_by k es) ≤ length (inside tops es)
  count_most tops [] h = omega arith
  count_most tops (e ∷ es) h =
      let x = h.0 in
      let more = count_most tops es h.1 in
      let mine = sum_by-cons (λ (e : PathOf × ℕ). one_where (own e.1)) e es in
      let right = sum_by-cons (λ (e : PathOf × PathClass). one_where (g e.1)) (e.0, x.class) (entries_by k es) in
      let first = ap (count_by (λ (e : PathOf × PathClass). g e.1)) (entry_first k e es x.class x.is) in
      let one = not_twice (own e.1) (g x.class) (is_inside tops e.0) x.mine x.others x.apart in
      let long = by (is_inside tops e.0) in
      omega (arith, more, mine, right, first, one, long)
    where
      by : (b : Bool) → length (cond b (e ∷ inside tops es) (inside tops es)) ≡ one_where b + length (inside tops es)
      by true = omega arith
      by false = omega arith

-- ---- rows and classes of the same paths, before and after

pub record AreBoth (old new : Kept LabelRow) (before classes : Kept PathClass) : Type 0 where
  pub sound_old : AreSound old.0 old.1
  pub sound_new : AreSound new.0 new.1
  pub order_old : IsInOrder (entries_in old)
  pub order_new : IsInOrder (entries_in new)
  pub order : IsInOrder before.1
  pub were : AreClasses old before
  pub are : AreClasses new classes
  pub paths : classes.1 ≡ before.1

module _ (old new : Kept LabelRow) (before classes : Kept PathClass) (b : AreBoth old new before classes) where
  module _ (p : PathOf) (n : ℕ) (found : find path_cmp p before.1 ≡ Some n) where
    found_new : find path_cmp p classes.1 ≡ Some n
    found_new = ap (find path_cmp p) b.paths ∙ found

    pub had : HasClass old.0 before.0 before.1 (p, n)
    had = all_found (HasClass old.0 before.0 before.1) p before.1 n b.were.each found

    pub has : HasClass new.0 classes.0 classes.1 (p, n)
    has = all_found (HasClass new.0 classes.0 classes.1) p classes.1 n b.are.each found_new

    label_of : (rows : Kept LabelRow) (ks : Kept PathClass) (c : PathClass) → AreClasses rows ks → find path_cmp p ks.1 ≡ Some n → node_at ks.0 n ≡ Some c → find path_cmp p rows.1 ≡ Some c.kind
    label_of rows ks c w there is =
        ap (find path_cmp p) (sym w.kinds) ∙ find-values (kind_at ks.0) p ks.1 ∙ ap (option_map (kind_at ks.0)) there ∙ ap (λ o. Some (option_map_or (λ (c : PathClass). c.kind) o 0)) is

    pub label_had : find path_cmp p old.1 ≡ Some had.class.kind
    label_had = label_of old before had.class b.were found had.is

    pub label_has : find path_cmp p new.1 ≡ Some has.class.kind
    label_has = label_of new classes has.class b.are found_new has.is

    pub same_above : has.class.above ≡ had.class.above
    same_above = has.above ∙ ap (class_above p) b.paths ∙ sym had.above

    pub same_search : (changed : List ℕ) → ((m : ℕ) → is_one m changed ≡ false → search_at classes.0 m ≡ search_at before.0 m) → option_map_or (λ a. is_one a changed) has.class.above false ≡ false
        → search_above classes.0 has.class.above ≡ search_above before.0 has.class.above
    same_search changed same h = by has.class.above h
      where
        by : (above : Option ℕ) → option_map_or (λ a. is_one a changed) above false ≡ false → search_above classes.0 above ≡ search_above before.0 above
        by None h = refl
        by (Some a) h = ap Some (same a h)

    -- the verdicts on the label and who can search above are the same: so are the answers
    pub same_answers : has.class.kind ≡ had.class.kind → verdicts_at new.0 had.class.kind ≡ verdicts_at old.0 had.class.kind
        → search_above classes.0 has.class.above ≡ search_above before.0 has.class.above → SameAnswers old new p
    same_answers kind verdicts search user =
        let rows : has.right.row.row ≡ had.right.row.row =
        some_is (verdicts_at new.0 had.class.kind) has.right.row.row had.right.row.row
        (ap (verdicts_at new.0) (sym kind) ∙ ap (option_map (λ (x : LabelRow). x.row)) has.right.has_row)
        (verdicts ∙ ap (option_map (λ (x : LabelRow). x.row)) had.right.has_row) in
        let searches : search_above classes.0 has.class.above ≡ search_above before.0 had.class.above = search ∙ ap (search_above before.0) same_above in
        answer_is old before b.sound_old.used b.were p n found had.class had.is b.order_old had.right.row had.right.has_row user
        ∙ (λ i. option_map (λ c. cond (gets_through (sym searches i) user) c 0) (slice_get (sym rows i) user))
        ∙ sym (answer_is new classes b.sound_new.used b.are p n found_new has.class has.is b.order_new has.right.row has.right.has_row user)

  -- a count by numbers and classes that misses no path whose answers may be others
  pub all_counted : (own : ℕ → Bool) (g : PathClass → Bool)
      → ((p : PathOf) (n : ℕ) (found : find path_cmp p before.1 ≡ Some n) → (own n || g (has p n found).class) ≡ false → SameAnswers old new p)
      → AreCounted old new (count_by (λ (e : PathOf × ℕ). own e.1) before.1 + count_by (λ (e : PathOf × PathClass). g e.1) (entries_in classes))
  all_counted own g same differs alike =
      let count : count_by (λ (e : PathOf × ℕ). differs e.0) new.1 ≡ count_by (λ (e : PathOf × ℕ). differs e.0) before.1 =
      ap (count_by (λ (e : PathOf × ℕ). differs e.0)) (sym b.are.kinds) ∙ count_valued differs (kind_at classes.0) classes.1 ∙ ap (count_by (λ (e : PathOf × ℕ). differs e.0)) b.paths in
      let least = count_least classes.0 own g differs before.1
      (all_weaker (λ (e : PathOf × ℕ). find path_cmp e.0 before.1 ≡ Some e.1) (IsCounted classes.0 own g differs) (λ e found. one e.0 e.1 found) before.1 (among_all before.1 b.order)) in
      let entries : count_by (λ (e : PathOf × PathClass). g e.1) (entries_in classes) ≡ count_by (λ (e : PathOf × PathClass). g e.1) (entries_by classes.0 before.1) =
      ap (λ (ns : Numbers). count_by (λ (e : PathOf × PathClass). g e.1) (entries_by classes.0 ns)) b.paths in
      omega (arith, count, least, entries)
    where
      one : (p : PathOf) (n : ℕ) → find path_cmp p before.1 ≡ Some n → IsCounted classes.0 own g differs (p, n)
      one p n found = ((has p n found).class, ((has p n found).is, by (own n || g (has p n found).class) refl))
        where
          by : (c : Bool) → (own n || g (has p n found).class) ≡ c → differs p ≡ true → (own n || g (has p n found).class) ≡ true
          by true is d = is
          by false is d = let no : true ≡ false = sym d ∙ alike p (same p n found is) in cc

  -- a count of paths that all lie inside
  pub all_within : (own : ℕ → Bool) (g : PathClass → Bool) (tops : List PathOf)
      → ((p : PathOf) (n : ℕ) (found : find path_cmp p before.1 ≡ Some n) → LiesInside classes.0 own g tops (p, n))
      → count_by (λ (e : PathOf × ℕ). own e.1) before.1 + count_by (λ (e : PathOf × PathClass). g e.1) (entries_in classes) ≤ length (inside tops new.1)
  all_within own g tops each =
      let most = count_most classes.0 own g tops before.1
      (all_weaker (λ (e : PathOf × ℕ). find path_cmp e.0 before.1 ≡ Some e.1) (LiesInside classes.0 own g tops) (λ e found. each e.0 e.1 found) before.1 (among_all before.1 b.order)) in
      let entries : count_by (λ (e : PathOf × PathClass). g e.1) (entries_in classes) ≡ count_by (λ (e : PathOf × PathClass). g e.1) (entries_by classes.0 before.1) =
      ap (λ (ns : Numbers). count_by (λ (e : PathOf × PathClass). g e.1) (entries_by classes.0 ns)) b.paths in
      let long : length (inside tops new.1) ≡ length (inside tops before.1) =
      ap (λ (ns : Numbers). length (inside tops ns)) (sym b.are.kinds) ∙ inside_valued tops (kind_at classes.0) classes.1 ∙ ap (λ (ns : Numbers). length (inside tops ns)) b.paths in
      omega (arith, most, entries, long)
