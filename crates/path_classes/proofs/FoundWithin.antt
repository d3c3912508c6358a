-- Classes of the paths inside, found top by top.
use Rattle.std.proofs.Common.{◌≡◌, ℕ, suc, ◌+◌, ◌<◌, ◌≤◌, Bool, true, false, not, ◌||◌, cond, List, [], ◌∷◌, ◌++◌, map, filter, take, drop, length, get_or}
use Rattle.std.proofs.Common.{Option, Some, None, refl, sym, ap, subst, ◌∙◌, arith}
use Rattle.std.specs.Prelude.{◌-◌, option_map}
use Rattle.std.specs.Borrow.{Bor}
use Rattle.std.specs.List.{AllByRecursion}
use Rattle.std.specs.Option.{option_or}
use Rattle.std.proofs.lemmas.List.{map-append, take_all}
use Rattle.acl_names.specs.Paths.{PathOf}
use Rattle.acl_names.specs.Below.{encloses, is_above}
use Rattle.acl_names.proofs.Basics.{not_both, false_from}
use Rattle.acl_names.proofs.Below.{below_within, not_before}
use Rattle.path_map.specs.Entries.{IsInOrder}
use Rattle.path_map.specs.Below.{within, is_passed, nearest_above}
use Rattle.kinds.specs.Kinds.{KindsOf, count_at}
use Rattle.kinds.specs.Numbered.{Kept, Numbers, AreUsed, one_if, paths_with}
use Rattle.kinds.proofs.EntriesBy.{items_more, items_cut}
use Rattle.path_classes.specs.declared.label_row.LabelRow.{LabelRow}
use Rattle.path_classes.specs.declared.path_class.PathClass.{PathClass}
use Rattle.path_classes.specs.PathClasses.{ClassKinds, class_above, HasClassBelow, HasClass}
use Rattle.path_classes.specs.ClassBuilding.{IsRightAbove, AreKept, AreWalked}
use Rattle.path_classes.specs.ClassesWithin.{paths_seen, is_inside, inside, outside, AreTops, FitOutside, AreFound}
use Rattle.path_classes.proofs.RenewedClasses.{counted_one}
use Rattle.path_classes.proofs.Growing.{right_above, widens_itself, widens_on}
use Rattle.path_classes.proofs.Making.{with_kind, kinds_widened, has_widened}
use Rattle.path_classes.proofs.Tops.{above_below, inside_below, none_inside, no_top_above, tops_parts, all_inside, all_outside, all_within, nearest_two}
use Rattle.path_classes.proofs.Tops.{nearest_none, nearest_is, outside_above, above_top, inside_more}

-- ---- lists

-- what holds of the paths of entries holds of those of others with the same paths
pub keys_all : (P : PathOf → Type 0) (k : ClassKinds) (es : Numbers) → AllByRecursion (λ (e : PathOf × ℕ). P e.0) (map (with_kind k) es) → AllByRecursion (λ (e : PathOf × ℕ). P e.0) es
keys_all P k [] h = tt
keys_all P k (e ∷ es) h = (h.0, keys_all P k es h.1)

pub all_two : {A : Type 0} (P : A → Type 0) (xs ys : List A) → AllByRecursion P xs → AllByRecursion P ys → AllByRecursion P (xs ++ ys)
all_two P [] ys h k = k
all_two P (x ∷ xs) ys h k = (h.0, all_two P xs ys h.1 k)

pub all_mapped : {A : Type 0} (P Q : A → Type 0) → ((x : A) → P x → Q x) → (xs : List A) → AllByRecursion P xs → AllByRecursion Q xs
all_mapped P Q f [] h = tt
all_mapped P Q f (x ∷ xs) h = (f x h.0, all_mapped P Q f xs h.1)

pub all_both : {A : Type 0} (P Q R : A → Type 0) → ((x : A) → P x → Q x → R x) → (xs : List A) → AllByRecursion P xs → AllByRecursion Q xs → AllByRecursion R xs
all_both P Q R f [] h k = tt
all_both P Q R f (x ∷ xs) h k = (f x h.0 k.0, all_both P Q R f xs h.1 k.1)

pub all_filter : {A : Type 0} (P : A → Type 0) (test : A → Bool) (xs : List A) → AllByRecursion P xs → AllByRecursion P (filter test xs)
all_filter P test [] h = tt
all_filter P test (x ∷ xs) h = by (test x) (all_filter P test xs h.1)
  where
    by : (b : Bool) → AllByRecursion P (filter test xs) → AllByRecursion P (cond b (x ∷ filter test xs) (filter test xs))
    by true more = (h.0, more)
    by false more = more

pub inside_none : {V : Type 0} (es : List (PathOf × V)) → inside [] es ≡ []
inside_none [] = refl
inside_none (e ∷ es) = inside_none es

pub or_none : {A : Type 0} (o : Option A) → option_or o None ≡ o
or_none None = refl
or_none (Some x) = refl

pub or_second : {A B : Type 0} (f : A → B) (a b : Option A) → option_map f (option_or a b) ≡ option_or (option_map f a) (option_map f b)
or_second f None b = refl
or_second f (Some x) b = refl

-- the class above, by parts
pub above_two : (p : PathOf) (es fs : Numbers) → class_above p (es ++ fs) ≡ option_or (class_above p fs) (class_above p es)
above_two p es fs = ap (option_map (λ (e : PathOf × ℕ). e.1)) (nearest_two p es fs) ∙ or_second (λ (e : PathOf × ℕ). e.1) (nearest_above p fs) (nearest_above p es)

above_none : (p : PathOf) (es : Numbers) → AllByRecursion (λ (e : PathOf × ℕ). is_above e.0 p ≡ false) es → class_above p es ≡ None
above_none p es h = ap (option_map (λ (e : PathOf × ℕ). e.1)) (nearest_none p es h)

-- what is outside is not within a top
clear_at : (done : List PathOf) (t : PathOf) (ts : List PathOf) (p : PathOf) → is_inside (done ++ t ∷ ts) p ≡ false → encloses t p ≡ false
clear_at [] t ts p h = by (encloses t p) refl h
  where
    by : (b : Bool) → encloses t p ≡ b → (b || is_inside ts p) ≡ false → encloses t p ≡ false
    by true is h = cc
    by false is h = is
clear_at (s ∷ done) t ts p h = by (encloses s p) h (clear_at done t ts p)
  where
    by : (b : Bool) → (b || is_inside (done ++ t ∷ ts) p) ≡ false → (is_inside (done ++ t ∷ ts) p ≡ false → encloses t p ≡ false) → encloses t p ≡ false
    by true h more = cc
    by false h more = more h

pub clear : (done : List PathOf) (t : PathOf) (ts : List PathOf) (es : Numbers) → AllByRecursion (λ (e : PathOf × ℕ). encloses t e.0 ≡ false) (outside (done ++ t ∷ ts) es)
clear done t ts es =
    all_mapped (λ (e : PathOf × ℕ). is_inside (done ++ t ∷ ts) e.0 ≡ false) (λ (e : PathOf × ℕ). encloses t e.0 ≡ false) (λ e h. clear_at done t ts e.0 h)
    (outside (done ++ t ∷ ts) es) (all_outside (done ++ t ∷ ts) es)

-- the class above a top, of the paths outside
pub top_above : (done : List PathOf) (t : PathOf) (ts : List PathOf) (es : Numbers) → AreTops (done ++ t ∷ ts) → class_above t es ≡ class_above t (outside (done ++ t ∷ ts) es)
top_above done t ts es tops = sym (ap (option_map (λ (e : PathOf × ℕ). e.1)) (outside_above (done ++ t ∷ ts) t (no_top_above done t ts tops) es))

-- the class of a path outside is right
pub above_right : (rows : KindsOf LabelRow) (k : ClassKinds) (all out : Numbers) (p : PathOf) → AllByRecursion (HasClass rows k all) out → IsRightAbove rows k (class_above p out)
above_right rows k all out p h = by (nearest_above p out) refl
  where
    by : (o : Option (PathOf × ℕ)) → nearest_above p out ≡ o → IsRightAbove rows k (option_map (λ (e : PathOf × ℕ). e.1) o)
    by None is = tt
    by (Some e) is = let c = nearest_is (HasClass rows k all) p out e h is in (c.class, (c.is, c.right))

-- paths inside and outside have a number
paths_parts : (tops : List PathOf) (n : ℕ) (es : Numbers) → paths_with n es ≡ paths_with n (inside tops es) + paths_with n (outside tops es)
paths_parts tops n [] = refl
paths_parts tops n (e ∷ es) = by (is_inside tops e.0) (paths_parts tops n es)
  where
    by : (b : Bool) → paths_with n es ≡ paths_with n (inside tops es) + paths_with n (outside tops es)
        → one_if n e.1 + paths_with n es ≡ paths_with n (cond b (e ∷ inside tops es) (inside tops es)) + paths_with n (cond (not b) (e ∷ outside tops es) (outside tops es))
    by true more = omega (arith, more)
    by false more = omega (arith, more)

-- classes that are counted outside are right
pub kept_right : (rows : Kept LabelRow) (tops : List PathOf) (before : Kept PathClass) (out : ClassKinds) (left : Numbers) → FitOutside rows tops before
    → ((n : ℕ) → count_at before.0 n ≡ paths_with n before.1) → left ≡ inside tops before.1 → ((n : ℕ) → count_at out n ≡ count_at before.0 n - paths_with n left)
    → AreKept rows.0 before.0 out
kept_right rows tops before out left fits counted is counts n lt =
    let a = counts n in
    let b = counted n in
    let c = paths_parts tops n before.1 in
    let d = ap (paths_with n) is in
    let some : 0 < paths_with n (outside tops before.1) = omega (arith, a, b, c, d, lt) in
    let one = counted_one (HasClass rows.0 before.0 (outside tops before.1)) n (outside tops before.1) fits.each some in
    (one.1.class, (one.1.is, one.1.right))

-- ---- one top more

pub none_taken : {A : Type 0} (xs : List A) → take 0 xs ≡ []
none_taken [] = refl
none_taken (x ∷ xs) = refl

found_none : (rows : Kept LabelRow) (out : Numbers) (first : ClassKinds) → AreFound rows [] out first first []
found_none rows out first = record { widens = widens_itself rows.0 first; kinds = sym (inside_none rows.1); each = tt }

module _ (rows : Kept LabelRow) (order : IsInOrder rows.1) (out : Numbers) (first : ClassKinds) (done : List PathOf) (t : PathOf) (k new : ClassKinds) (made own : Numbers) (over : Option ℕ)
    (apart : AllByRecursion (λ s. is_passed s t ≡ false) done) (above_is : over ≡ class_above t out) (free : AllByRecursion (λ (e : PathOf × ℕ). encloses t e.0 ≡ false) out)
    (f : AreFound rows done out first k made) (w : AreWalked rows.0 (within t rows.1) over k new own) where
  made_inside : AllByRecursion (λ (e : PathOf × ℕ). is_inside done e.0 ≡ true) made
  made_inside = keys_all (λ p. is_inside done p ≡ true) k made (subst (AllByRecursion (λ (e : PathOf × ℕ). is_inside done e.0 ≡ true)) (sym f.kinds) (all_inside done rows.1))

  own_within : AllByRecursion (λ (e : PathOf × ℕ). encloses t e.0 ≡ true) own
  own_within = keys_all (λ p. encloses t p ≡ true) new own (subst (AllByRecursion (λ (e : PathOf × ℕ). encloses t e.0 ≡ true)) (sym w.kinds) (all_within t rows.1))

  -- none of the new paths is above an old one
  made_above : (p : PathOf) → is_inside done p ≡ true → class_above p (made ++ own) ≡ class_above p made
  made_above p i =
      above_two p made own
      ∙ ap (λ o. option_or o (class_above p made))
      (above_none p own (all_mapped (λ (e : PathOf × ℕ). encloses t e.0 ≡ true) (λ (e : PathOf × ℕ). is_above e.0 p ≡ false)
      (λ e h. false_from (is_above e.0 p) (λ o. not_both (is_inside done p) i (none_inside done t p apart (not_before t p (below_within t p (above_below t e.0 p h o)))))) own own_within))

  -- and none of the old ones above a new one
  own_above : (p : PathOf) → encloses t p ≡ true → option_or (class_above p (made ++ own)) (class_above p out) ≡ option_or (class_above p own) over
  own_above p i =
      ap (λ o. option_or o (class_above p out))
      (above_two p made own
      ∙ ap (λ o. option_or (class_above p own) o)
      (above_none p made (all_mapped (λ (e : PathOf × ℕ). is_inside done e.0 ≡ true) (λ (e : PathOf × ℕ). is_above e.0 p ≡ false)
      (λ e h. false_from (is_above e.0 p) (λ o. not_both (is_inside done p) (inside_below done e.0 p h (below_within e.0 p o)) (none_inside done t p apart (not_before t p i)))) made made_inside))
      ∙ or_none (class_above p own))
      ∙ ap (λ o. option_or (class_above p own) o) (ap (option_map (λ (e : PathOf × ℕ). e.1)) (above_top t p out i free) ∙ sym above_is)

  abbrev Has : ClassKinds → Numbers → PathOf × ℕ → Type 0
  Has k es e = HasClassBelow rows.0 k (option_or (class_above e.0 es) (class_above e.0 out)) e.1

  pub found_more : AreFound rows (done ++ t ∷ []) out first new (made ++ own)
  found_more = record {
    widens = widens_on rows.0 first k new f.widens w.widens;
    kinds =
        map-append (with_kind new) made own
        ∙ (λ i. kinds_widened rows.0 k new w.widens (λ (e : PathOf × ℕ). option_or (class_above e.0 made) (class_above e.0 out)) made f.each i ++ w.kinds i)
        ∙ ap (λ es. es ++ within t rows.1) f.kinds
        ∙ sym (inside_more done t apart rows.1 order);
    each = all_two (Has new (made ++ own)) made own
        (all_both (λ (e : PathOf × ℕ). is_inside done e.0 ≡ true) (Has k made) (Has new (made ++ own))
        (λ e i h.
        subst (λ o. HasClassBelow rows.0 new (option_or o (class_above e.0 out)) e.1) (sym (made_above e.0 i))
        (has_widened rows.0 k new w.widens (option_or (class_above e.0 made) (class_above e.0 out)) e.1 h)) made made_inside f.each)
        (all_both (λ (e : PathOf × ℕ). encloses t e.0 ≡ true) (λ (e : PathOf × ℕ). HasClassBelow rows.0 new (option_or (class_above e.0 own) over) e.1) (Has new (made ++ own))
        (λ e i h. subst (λ o. HasClassBelow rows.0 new o e.1) (sym (own_above e.0 i)) h) own own_within w.each);
  }

-- ---- a step of the loop

pub found_first : (rows : Kept LabelRow) (out : Numbers) (first k : ClassKinds) (xs : List (Bor PathOf)) (made : Numbers) → k ≡ first → made ≡ []
    → AreFound rows (paths_seen (take 0 xs)) out first k made
found_first rows out first k xs made same none =
    subst (λ es. AreFound rows (paths_seen (take 0 xs)) out first k es) (sym none)
    (subst (λ k. AreFound rows (paths_seen (take 0 xs)) out first k []) (sym same)
    (subst (λ ps. AreFound rows (paths_seen ps) out first first []) (sym (none_taken xs)) (found_none rows out first)))

-- the paths at or below a top have classes, below a class that is given, and come after others
pub record WalksTop (rows : KindsOf LabelRow) (files : Numbers) (over : Option ℕ) (top : PathOf) (first : ClassKinds) (made : Numbers) (k : ClassKinds) (more : Numbers) : Type 0 where
  pub own : Numbers
  pub added : more ≡ made ++ own
  pub walked : AreWalked rows (within top files) over first k own

module _ (rows : Kept LabelRow) (before : Kept PathClass) (order : IsInOrder rows.1) (xs : List (Bor PathOf)) (at : ℕ) (x : Bor PathOf) (lt : at < length xs) (is : x ≡ get_or xs at x)
    (tops : AreTops (paths_seen xs)) (fits : FitOutside rows (paths_seen xs) before) where
  abbrev front : List PathOf
  front = paths_seen (take at xs)

  abbrev back : List PathOf
  back = paths_seen (drop (suc at) xs)

  abbrev all_out : Numbers
  all_out = outside (paths_seen xs) before.1

  cut : paths_seen xs ≡ front ++ x.now ∷ back
  cut = items_cut (λ (p : Bor PathOf). p.now) xs at x lt is

  tops_cut : AreTops (front ++ x.now ∷ back)
  tops_cut = subst AreTops cut tops

  over_is : class_above x.now before.1 ≡ class_above x.now all_out
  over_is = top_above front x.now back before.1 tops_cut ∙ ap (λ ts. class_above x.now (outside ts before.1)) (sym cut)

  free_top : AllByRecursion (λ (e : PathOf × ℕ). encloses x.now e.0 ≡ false) all_out
  free_top = subst (λ ts. AllByRecursion (λ (e : PathOf × ℕ). encloses x.now e.0 ≡ false) (outside ts before.1)) (sym cut) (clear front x.now back before.1)

  pub top_over : (labels : KindsOf LabelRow) → labels ≡ rows.0 → (paths : Numbers) → paths ≡ before.1 → (k : ClassKinds) (made : Numbers)
      → AreFound rows (paths_seen (take at xs)) (outside (paths_seen xs) before.1) before.0 k made
      → IsRightAbove labels k (class_above x.now paths)
  top_over labels same paths same_paths k made f =
      subst (λ l. IsRightAbove l k (class_above x.now paths)) (sym same)
      (subst (IsRightAbove rows.0 k) (sym (ap (class_above x.now) same_paths ∙ over_is))
      (right_above rows.0 before.0 k f.widens (class_above x.now all_out) (above_right rows.0 before.0 all_out all_out x.now fits.each)))

  pub top_found : (labels : KindsOf LabelRow) → labels ≡ rows.0 → (files : Numbers) → files ≡ rows.1 → (paths : Numbers) → paths ≡ before.1 → (k new : ClassKinds) (made more : Numbers)
      → AreFound rows (paths_seen (take at xs)) (outside (paths_seen xs) before.1) before.0 k made → WalksTop labels files (class_above x.now paths) x.now k made new more
      → AreFound rows (paths_seen (take (at + 1) xs)) (outside (paths_seen xs) before.1) before.0 new more
  top_found labels same files same_files paths same_paths k new made more f w =
      let over : Option ℕ = class_above x.now paths in
      let walked : AreWalked rows.0 (within x.now rows.1) over k new w.own =
      subst (λ l. AreWalked l (within x.now rows.1) over k new w.own) same (subst (λ es. AreWalked labels (within x.now es) over k new w.own) same_files w.walked) in
      subst (λ es. AreFound rows (paths_seen (take (at + 1) xs)) all_out before.0 new es) (sym w.added)
      (subst (λ ts. AreFound rows ts all_out before.0 new (made ++ w.own)) (sym (items_more (λ (p : Bor PathOf). p.now) xs at x lt is))
      (found_more rows order all_out before.0 front x.now k new made w.own over (tops_parts front x.now back tops_cut).0 (ap (class_above x.now) same_paths ∙ over_is) free_top f walked))

pub found_last : (rows : Kept LabelRow) (out : Numbers) (first k new : ClassKinds) (xs : List (Bor PathOf)) (at : ℕ) (made : Numbers) → length xs ≤ at → new ≡ k
    → AreFound rows (paths_seen (take at xs)) out first k made → AreFound rows (paths_seen xs) out first new made
found_last rows out first k new xs at made most same f =
    subst (λ k. AreFound rows (paths_seen xs) out first k made) (sym same) (subst (λ ps. AreFound rows (paths_seen ps) out first k made) (take_all at xs most) f)

pub used_within : (k : KindsOf LabelRow) (t : PathOf) (es : Numbers) → AreUsed k es → AreUsed k (within t es)
used_within k t [] h = tt
used_within k t (e ∷ es) h = by (encloses t e.0) (used_within k t es h.1)
  where
    by : (b : Bool) → AreUsed k (within t es) → AreUsed k (cond b (e ∷ within t es) (within t es))
    by true more = (h.0, more)
    by false more = more
