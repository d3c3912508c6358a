-- The map of all paths' classes: those outside as they were, those inside as they were found.
use Rattle.std.proofs.Common.{◌≡◌, ℕ, suc, ◌+◌, ◌<◌, Bool, true, false, not, cond, List, [], ◌∷◌, ◌++◌, map, filter, take, drop, length, get_or}
use Rattle.std.proofs.Common.{is_some, is_none, append-nil, Option, Some, None, refl, sym, ap, subst, ◌∙◌, arith}
use Rattle.std.specs.Prelude.{option_map, IfSome, if◌then◌else◌}
use Rattle.std.specs.Borrow.{Bor}
use Rattle.std.specs.List.{AllByRecursion}
use Rattle.std.specs.Option.{option_or, option_map_or, unwrap_or}
use Rattle.std.specs.Ordering.{eq_by_cmp}
use Rattle.std.specs.FinMap.{find}
use Rattle.std.specs.FinMap.Entries.{same_entries}
use Rattle.acl_names.specs.Paths.{path_cmp, PathOf}
use Rattle.acl_names.proofs.PathOrder.{path_total, exact_paths}
use Rattle.acl_names.proofs.Basics.{to_T, is_equal}
use Rattle.path_map.specs.Entries.{IsInOrder, seen}
use Rattle.path_map.specs.Below.{within, nearest_above}
use Rattle.path_map.specs.Merged.{has, merged}
use Rattle.path_map.proofs.Merges.{in_order-merged}
use Rattle.path_map.proofs.Rows.{kept, find_filter, find_merged, in_order-filter, in_order-rows, sorted_rows}
use Rattle.kinds.specs.Kinds.{node_at, count_at}
use Rattle.kinds.specs.Numbered.{Kept, Numbers, AreUsed, paths_with}
use Rattle.kinds.specs.Inner.{AreAmong}
use Rattle.kinds.proofs.Chosen.{among_all}
use Rattle.kinds.proofs.Counts.{counted_all}
use Rattle.kinds.proofs.EntriesBy.{items_more, items_cut}
use Rattle.path_classes.specs.declared.label_row.LabelRow.{LabelRow}
use Rattle.path_classes.specs.declared.path_class.PathClass.{PathClass}
use Rattle.path_classes.specs.Searching.{searchers}
use Rattle.path_classes.specs.PathClasses.{ClassKinds, kept_search, search_above, depth_below, kind_at, class_above, AboveKeeps, IsRight, HasClassBelow, HasClass, AreClasses}
use Rattle.path_classes.specs.ClassesWithin.{paths_seen, is_inside, inside, outside, AreTops, AreFound}
use Rattle.path_classes.specs.ClassTags.{class_tags}
use Rattle.kinds.specs.Renumbered.{IsPut}
use Rattle.kinds.specs.Tagged.{KeepsTags}
use Rattle.path_classes.specs.ClassBuilding.{SameClassesBut}
use Rattle.path_classes.proofs.Growing.{some_is}
use Rattle.path_classes.proofs.Maps.{find-values}
use Rattle.path_classes.proofs.Making.{with_kind, kinds_widened, has_widened}
use Rattle.path_classes.proofs.Tops.{all_inside, all_outside, not_above_outside, outside_above, nearest_is, nearest_parts, all_parts, tops_parts, inside_more}
use Rattle.path_classes.proofs.FoundWithin.{keys_all, all_both, all_mapped, all_filter, or_second, inside_none, none_taken}

-- ---- look-ups

-- a path for which all of some entries fail a test that it passes is not one of them
pub find_apart : {V : Type 0} (test : PathOf → Bool) (b : Bool) (q : PathOf) (es : List (PathOf × V)) → test q ≡ not b → AllByRecursion (λ e. test e.0 ≡ b) es → find path_cmp q es ≡ None
find_apart test b q [] h all = refl
find_apart test b q (e ∷ es) h all = by (eq_by_cmp path_cmp q e.0) refl (find_apart test b q es h all.1)
  where
    clash : (b : Bool) → not b ≡ b → ⊥
    clash true e = cc
    clash false e = cc

    by : (c : Bool) → eq_by_cmp path_cmp q e.0 ≡ c → find path_cmp q es ≡ None → cond c (Some e.1) (find path_cmp q es) ≡ None
    by true is more = absurd (clash b (sym h ∙ ap test (exact_paths q e.0 (is_equal (path_cmp q e.0) is)) ∙ all.0))
    by false is more = more

cond_same : {A : Type 0} (b : Bool) (x : A) → x ≡ cond b x x
cond_same true x = refl
cond_same false x = refl

module _ {V : Type 0} (tops : List PathOf) (q : PathOf) (es : List (PathOf × V)) (order : IsInOrder es) where
  inner : (b : Bool) → is_inside tops q ≡ b → (o : Option V) → kept (λ (e : PathOf × V). is_inside tops e.0) q o ≡ cond b o None
  inner b is None = cond_same b None
  inner b is (Some v) = ap (λ b. cond b (Some v) None) is

  outer : (b : Bool) → is_inside tops q ≡ b → (o : Option V) → kept (λ (e : PathOf × V). not (is_inside tops e.0)) q o ≡ cond b None o
  outer b is None = cond_same b None
  outer b is (Some v) = ap (λ b. cond (not b) (Some v) None) is ∙ by b
    where
      by : (c : Bool) → cond (not c) (Some v) None ≡ cond c None (Some v)
      by true = refl
      by false = refl

  pub find_inside : (b : Bool) → is_inside tops q ≡ b → find path_cmp q (inside tops es) ≡ cond b (find path_cmp q es) None
  find_inside b is = find_filter (λ (e : PathOf × V). is_inside tops e.0) q es order ∙ inner b is (find path_cmp q es)

  pub find_outside : (b : Bool) → is_inside tops q ≡ b → find path_cmp q (outside tops es) ≡ cond b None (find path_cmp q es)
  find_outside b is = find_filter (λ (e : PathOf × V). not (is_inside tops e.0)) q es order ∙ outer b is (find path_cmp q es)

-- ---- the paths inside, top by top, and those that are gone

filter_two : {A : Type 0} (test : A → Bool) (xs ys : List A) → filter test (xs ++ ys) ≡ filter test xs ++ filter test ys
filter_two test [] ys = refl
filter_two test (x ∷ xs) ys = by (test x) (filter_two test xs ys)
  where
    by : (b : Bool) → filter test (xs ++ ys) ≡ filter test xs ++ filter test ys
        → cond b (x ∷ filter test (xs ++ ys)) (filter test (xs ++ ys)) ≡ cond b (x ∷ filter test xs) (filter test xs) ++ filter test ys
    by true more = ap (λ l. x ∷ l) more
    by false more = more

pub inside_first : (xs : List (Bor PathOf)) (es all : Numbers) → all ≡ [] → all ≡ inside (paths_seen (take 0 xs)) es
inside_first xs es all none = none ∙ sym (ap (λ ts. inside ts es) (ap paths_seen (none_taken xs)) ∙ inside_none es)

pub inside_next : (xs : List (Bor PathOf)) (at : ℕ) (x : Bor PathOf) → at < length xs → x ≡ get_or xs at x → AreTops (paths_seen xs) → (es : Numbers) → IsInOrder es
    → (all more own : Numbers) → all ≡ inside (paths_seen (take at xs)) es → own ≡ within x.now es → more ≡ all ++ own → more ≡ inside (paths_seen (take (at + 1) xs)) es
inside_next xs at x lt is tops es order all more own were own_is more_is =
    let cut = items_cut (λ (p : Bor PathOf). p.now) xs at x lt is in
    let apart = (tops_parts (paths_seen (take at xs)) x.now (paths_seen (drop (suc at) xs)) (subst AreTops cut tops)).0 in
    more_is ∙ (λ i. were i ++ own_is i)
    ∙ sym (inside_more (paths_seen (take at xs)) x.now apart es order)
    ∙ ap (λ ts. inside ts es) (sym (items_more (λ (p : Bor PathOf). p.now) xs at x lt is))

-- one path more that was looked up
pub gone_next : (rows : Numbers) (files : List (Bor PathOf × ℕ)) (at : ℕ) (e : Bor PathOf × ℕ) (o : Option ℕ) → at < length files → e ≡ get_or files at e
    → o ≡ find path_cmp e.0.now rows → (gone : Numbers) → gone ≡ filter (λ (e : PathOf × ℕ). not (has e.0 rows)) (map seen (take at files))
    → (if is_none o then gone ++ seen e ∷ [] else gone) ≡ filter (λ (e : PathOf × ℕ). not (has e.0 rows)) (map seen (take (at + 1) files))
gone_next rows files at e o lt is found gone were =
    by o found
    ∙ ap (λ l. l ++ filter (λ (e : PathOf × ℕ). not (has e.0 rows)) (seen e ∷ [])) were
    ∙ sym (filter_two (λ (e : PathOf × ℕ). not (has e.0 rows)) (map seen (take at files)) (seen e ∷ []))
    ∙ ap (filter (λ (e : PathOf × ℕ). not (has e.0 rows))) (sym (items_more seen files at e lt is))
  where
    by : (o : Option ℕ) → o ≡ find path_cmp e.0.now rows → (if is_none o then gone ++ seen e ∷ [] else gone) ≡ gone ++ filter (λ (e : PathOf × ℕ). not (has e.0 rows)) (seen e ∷ [])
    by None h = ap (λ (o : Option ℕ). gone ++ cond (not (is_some o)) (seen e ∷ []) []) h
    by (Some n) h = sym (append-nil gone) ∙ ap (λ (o : Option ℕ). gone ++ cond (not (is_some o)) (seen e ∷ []) []) h

abbrev pub class_tags_of : PathClass → List ℕ
class_tags_of c = class_tags (is_some c.search) c.above c.kind

-- ---- the numbers of all paths

module _ (rows : Kept LabelRow) (tops : List PathOf) (old : Numbers) (first k : ClassKinds) (made : Numbers) (rows_order : IsInOrder rows.1) (old_order : IsInOrder old)
    (fits : AreClasses (rows.0, outside tops rows.1) (first, outside tops old)) (f : AreFound rows tops (outside tops old) first k made) where
  abbrev pub gone : Numbers
  gone = filter (λ (e : PathOf × ℕ). not (has e.0 rows.1)) (inside tops old)

  abbrev pub new : Numbers
  new = merged made gone old

  pub made_order : IsInOrder made
  made_order = sym (sorted_rows (kind_at k) made) ∙ (subst IsInOrder (sym f.kinds) (in_order-filter (λ (e : PathOf × ℕ). is_inside tops e.0) rows.1 rows_order))

  pub gone_order : IsInOrder gone
  gone_order = in_order-filter (λ (e : PathOf × ℕ). not (has e.0 rows.1)) (inside tops old) (in_order-filter (λ (e : PathOf × ℕ). is_inside tops e.0) old old_order)

  used_each : (over : PathOf × ℕ → Option ℕ) (es : Numbers) → AllByRecursion (λ (e : PathOf × ℕ). HasClassBelow rows.0 k (over e) e.1) es → AreUsed k es
  used_each over [] h = tt
  used_each over (e ∷ es) h = ((h.0.class, h.0.is), used_each over es h.1)

  pub made_used : AreUsed k made
  made_used = used_each (λ (e : PathOf × ℕ). option_or (class_above e.0 made) (class_above e.0 (outside tops old))) made f.each

  pub tags_stay : (begun : List ℕ) → SameClassesBut begun first k → KeepsTags class_tags_of begun first k
  tags_stay begun same n x is = let d = f.widens.grows n x is in (d.0, (d.1.0, λ out. ap class_tags_of (some_is (node_at k n) d.0 x d.1.0 (same n x is out))))

  new_order : IsInOrder new
  new_order = in_order-merged made gone old old_order

  made_inside : AllByRecursion (λ (e : PathOf × ℕ). is_inside tops e.0 ≡ true) made
  made_inside = keys_all (λ p. is_inside tops p ≡ true) k made (subst (AllByRecursion (λ (e : PathOf × ℕ). is_inside tops e.0 ≡ true)) (sym f.kinds) (all_inside tops rows.1))

  found_new : (q : PathOf) → find path_cmp q new ≡ option_or (find path_cmp q made) (cond (has q gone) None (find path_cmp q old))
  found_new q = find_merged q made gone old made_order

  -- a path inside is gone where it was there and rows have it no longer
  gone_there : (q : PathOf) → is_inside tops q ≡ true → find path_cmp q rows.1 ≡ None → cond (has q gone) None (find path_cmp q old) ≡ None
  gone_there q i none = by (find path_cmp q old) refl
    where
      by : (o : Option ℕ) → find path_cmp q old ≡ o → cond (has q gone) None (find path_cmp q old) ≡ None
      by None is = (λ j. cond (has q gone) None (is j)) ∙ sym (cond_same (has q gone) None)
      by (Some n) is = ap (λ b. cond b None (find path_cmp q old)) here
        where
          here : has q gone ≡ true
          here =
              ap is_some (find_filter (λ (e : PathOf × ℕ). not (has e.0 rows.1)) q (inside tops old) (in_order-filter (λ (e : PathOf × ℕ). is_inside tops e.0) old old_order)
              ∙ ap (kept (λ (e : PathOf × ℕ). not (has e.0 rows.1)) q) (find_inside tops q old old_order true i ∙ is)
              ∙ ap (λ o. cond (not (is_some o)) (Some n) None) none)

  -- a path is found by its label's number inside
  found_kind : (q : PathOf) → is_inside tops q ≡ true → option_map (kind_at k) (find path_cmp q made) ≡ find path_cmp q rows.1
  found_kind q i = sym (find-values (kind_at k) q made) ∙ ap (find path_cmp q) f.kinds ∙ find_inside tops q rows.1 rows_order true i

  inside_found : (q : PathOf) → is_inside tops q ≡ true → find path_cmp q new ≡ find path_cmp q made
  inside_found q i = found_new q ∙ by (find path_cmp q made) refl
    where
      by : (o : Option ℕ) → find path_cmp q made ≡ o → option_or (find path_cmp q made) (cond (has q gone) None (find path_cmp q old)) ≡ find path_cmp q made
      by None is =
          ap (λ o. option_or o (cond (has q gone) None (find path_cmp q old))) is ∙ gone_there q i (sym (found_kind q i) ∙ ap (option_map (kind_at k)) is) ∙ sym is
      by (Some n) is = ap (λ o. option_or o (cond (has q gone) None (find path_cmp q old))) is ∙ sym is

  outside_found : (q : PathOf) → is_inside tops q ≡ false → find path_cmp q new ≡ find path_cmp q old
  outside_found q o =
      found_new q
      ∙ ap (λ u. option_or u (cond (has q gone) None (find path_cmp q old))) (find_apart (is_inside tops) true q made o made_inside)
      ∙ ap (λ b. cond b None (find path_cmp q old)) still
    where
      still : has q gone ≡ false
      still =
          ap is_some (find_filter (λ (e : PathOf × ℕ). not (has e.0 rows.1)) q (inside tops old) (in_order-filter (λ (e : PathOf × ℕ). is_inside tops e.0) old old_order)
          ∙ ap (kept (λ (e : PathOf × ℕ). not (has e.0 rows.1)) q) (find_inside tops q old old_order false o))

  new_inside : inside tops new ≡ made
  new_inside = same_entries path_cmp path_total exact_paths _ _ (to_T _ (in_order-filter (λ (e : PathOf × ℕ). is_inside tops e.0) new new_order))
      (to_T _ made_order) (λ q. by q (is_inside tops q) refl)
    where
      by : (q : PathOf) (b : Bool) → is_inside tops q ≡ b → find path_cmp q (inside tops new) ≡ find path_cmp q made
      by q true i = find_inside tops q new new_order true i ∙ inside_found q i
      by q false o = find_inside tops q new new_order false o ∙ sym (find_apart (is_inside tops) true q made o made_inside)

  new_outside : outside tops new ≡ outside tops old
  new_outside =
      same_entries path_cmp path_total exact_paths _ _ (to_T _ (in_order-filter (λ (e : PathOf × ℕ). not (is_inside tops e.0)) new new_order))
      (to_T _ (in_order-filter (λ (e : PathOf × ℕ). not (is_inside tops e.0)) old old_order))
      (λ q. by q (is_inside tops q) refl)
    where
      by : (q : PathOf) (b : Bool) → is_inside tops q ≡ b → find path_cmp q (outside tops new) ≡ find path_cmp q (outside tops old)
      by q true i = find_outside tops q new new_order true i ∙ sym (find_outside tops q old old_order true i)
      by q false o = find_outside tops q new new_order false o ∙ outside_found q o ∙ sym (find_outside tops q old old_order false o)

  -- ---- their classes

  -- the class of each path, by the classes that were found
  pub has_all : AllByRecursion (HasClass rows.0 k new) new
  has_all = all_parts (HasClass rows.0 k new) tops new
      (subst (AllByRecursion (HasClass rows.0 k new)) (sym new_inside)
      (all_mapped (λ (e : PathOf × ℕ). HasClassBelow rows.0 k (option_or (class_above e.0 made) (class_above e.0 (outside tops old))) e.1)
      (HasClass rows.0 k new) (λ e h. subst (λ o. HasClassBelow rows.0 k o e.1) (sym (inner_above e.0)) h) made f.each))
      (subst (AllByRecursion (HasClass rows.0 k new)) (sym new_outside) (all_both (λ (e : PathOf × ℕ). is_inside tops e.0 ≡ false) (HasClass rows.0 first (outside tops old))
      (HasClass rows.0 k new) (λ e o h. subst (λ u. HasClassBelow rows.0 k u e.1) (sym (outer_above e.0 o)) (has_widened rows.0 first k f.widens (class_above e.0 (outside tops old)) e.1 h))
      (outside tops old) (all_outside tops old) fits.each))
    where
      inner_above : (p : PathOf) → class_above p new ≡ option_or (class_above p made) (class_above p (outside tops old))
      inner_above p =
          ap (option_map (λ (e : PathOf × ℕ). e.1)) (nearest_parts tops p new new_order) ∙ or_second (λ (e : PathOf × ℕ). e.1) (nearest_above p (inside tops new)) (nearest_above p (outside tops new))
          ∙ (λ i. option_or (class_above p (new_inside i)) (class_above p (new_outside i)))

      outer_above : (p : PathOf) → is_inside tops p ≡ false → class_above p new ≡ class_above p (outside tops old)
      outer_above p o = sym (ap (option_map (λ (e : PathOf × ℕ). e.1)) (outside_above tops p (not_above_outside tops p o) new)) ∙ ap (class_above p) new_outside

  pub kinds_all : map (with_kind k) new ≡ rows.1
  kinds_all = same_entries path_cmp path_total exact_paths _ _ (to_T _ (in_order-rows (kind_at k) new new_order)) (to_T _ rows_order)
      (λ q. find-values (kind_at k) q new ∙ by q (is_inside tops q) refl)
    where
      still : (es : Numbers) → AllByRecursion (HasClass rows.0 first (outside tops old)) es → map (with_kind k) es ≡ map (with_kind first) es
      still es h = kinds_widened rows.0 first k f.widens (λ (e : PathOf × ℕ). class_above e.0 (outside tops old)) es h

      by : (q : PathOf) (b : Bool) → is_inside tops q ≡ b → option_map (kind_at k) (find path_cmp q new) ≡ find path_cmp q rows.1
      by q true i = ap (option_map (kind_at k)) (inside_found q i) ∙ found_kind q i
      by q false o =
          ap (option_map (kind_at k)) (outside_found q o ∙ sym (find_outside tops q old old_order false o))
          ∙ sym (find-values (kind_at k) q (outside tops old))
          ∙ ap (find path_cmp q) (still (outside tops old) fits.each ∙ fits.kinds)
          ∙ find_outside tops q rows.1 rows_order false o

  -- the paths inside are found with their classes
  pub made_among : AreAmong new made
  made_among =
      subst (AreAmong new) new_inside
      (all_filter (λ (e : PathOf × ℕ). find path_cmp e.0 new ≡ Some e.1) (λ (e : PathOf × ℕ). is_inside tops e.0) new (among_all new new_order))

  -- ---- nodes that paths have

  module _ (last : Kept PathClass) (put : IsPut (first, old) k made gone last) where
    used_all : AllByRecursion (λ (e : PathOf × ℕ). 0 < count_at last.0 e.1) new
    used_all = counted_all (count_at last.0) new (λ n. let e = put.sound.counted n ∙ ap (paths_with n) put.numbers in omega (arith, e))

    node_last : AllByRecursion (λ (e : PathOf × ℕ). node_at last.0 e.1 ≡ node_at k e.1) new
    node_last = all_mapped (λ (e : PathOf × ℕ). 0 < count_at last.0 e.1) (λ (e : PathOf × ℕ). node_at last.0 e.1 ≡ node_at k e.1) (λ e h. put.nodes e.1 h) new used_all

    -- the class above is that of a path
    above_last : (p : PathOf) → (n : ℕ) → class_above p new ≡ Some n → node_at last.0 n ≡ node_at k n
    above_last p n is = by (nearest_above p new) refl is
      where
        by : (o : Option (PathOf × ℕ)) → nearest_above p new ≡ o → option_map (λ (e : PathOf × ℕ). e.1) o ≡ Some n → node_at last.0 n ≡ node_at k n
        by None at h = cc
        by (Some e) at h =
            let same : e.1 ≡ n = cc in
            subst (λ m. node_at last.0 m ≡ node_at k m) same (nearest_is (λ (e : PathOf × ℕ). node_at last.0 e.1 ≡ node_at k e.1) p new e node_last at)

    right_last : (c : PathClass) → ((n : ℕ) → c.above ≡ Some n → node_at last.0 n ≡ node_at k n) → IsRight rows.0 k c → IsRight rows.0 last.0 c
    right_last c same r = record {
      row = r.row;
      has_row = r.has_row;
      above = keeps c.above same r.above;
      depth = r.depth ∙ sym (deep c.above same);
      search = subst (λ o. IfSome c.search (λ s. s ≡ searchers o r.row.row)) (sym (searched c.above same)) r.search;
    }
      where
        keeps : (o : Option ℕ) → ((n : ℕ) → o ≡ Some n → node_at last.0 n ≡ node_at k n) → AboveKeeps k o → AboveKeeps last.0 o
        keeps None same h = tt
        keeps (Some n) same h = (h.0, ap kept_search (same n refl) ∙ h.1)

        deep : (o : Option ℕ) → ((n : ℕ) → o ≡ Some n → node_at last.0 n ≡ node_at k n) → depth_below last.0 o ≡ depth_below k o
        deep None same = refl
        deep (Some n) same = ap (λ o. suc (option_map_or (λ (c : PathClass). c.depth) o 0)) (same n refl)

        searched : (o : Option ℕ) → ((n : ℕ) → o ≡ Some n → node_at last.0 n ≡ node_at k n) → search_above last.0 o ≡ search_above k o
        searched None same = refl
        searched (Some n) same = ap (λ o. Some (unwrap_or (kept_search o) [])) (same n refl)

    has_last : (e : PathOf × ℕ) → node_at last.0 e.1 ≡ node_at k e.1 → HasClass rows.0 k new e → HasClass rows.0 last.0 new e
    has_last e same h = record {
      class = h.class;
      is = same ∙ h.is;
      above = h.above;
      right = right_last h.class (λ n is. above_last e.0 n (sym h.above ∙ is)) h.right;
    }

    kinds_last : (es : Numbers) → AllByRecursion (λ (e : PathOf × ℕ). node_at last.0 e.1 ≡ node_at k e.1) es → map (with_kind last.0) es ≡ map (with_kind k) es
    kinds_last [] h = refl
    kinds_last (e ∷ es) h = λ i. (e.0, option_map_or (λ (c : PathClass). c.kind) (h.0 i) 0) ∷ kinds_last es h.1 i

    pub put_classes : AreClasses rows last
    put_classes = record {
      kinds = ap (map (with_kind last.0)) put.numbers ∙ kinds_last new node_last ∙ kinds_all;
      each =
          subst (λ es. AllByRecursion (HasClass rows.0 last.0 es) es) (sym put.numbers)
          (all_both (λ (e : PathOf × ℕ). node_at last.0 e.1 ≡ node_at k e.1) (HasClass rows.0 k new) (HasClass rows.0 last.0 new) has_last new node_last has_all);
    }
