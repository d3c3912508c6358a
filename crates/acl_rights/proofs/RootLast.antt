-- The root gets its label after other files: the rows are those of all at once, and the counts of both steps add up.
use Rattle.std.proofs.Common.{◌≡◌, ℕ, suc, ◌+◌, ◌*◌, ◌<◌, ◌≤◌, Bool, true, false, not, ◌&&◌, cond, List, [], ◌∷◌, length, map, take, drop, get_or, is_some}
use Rattle.std.proofs.Common.{Option, Some, None, Ordering, Less, Equal, Greater, refl, sym, ap, subst, ◌∙◌, arith}
use Rattle.std.specs.Borrow.{Bor}
use Rattle.std.specs.Prelude.{slice_get, option_and_then, count_by}
use Rattle.std.specs.Cmp.Lexicographic.{slice_cmp}
use Rattle.std.specs.FinMap.{find, put, is_sorted, slice_cmp-IsAntisymmetric, nat_cmp-IsAntisymmetric}
use Rattle.std.specs.FinMap.Entries.{below_all, by_order, same_entries}
use Rattle.std.specs.Option.{option_or, unwrap_or}
use Rattle.std.specs.Ordering.{is_eq, eq_by_cmp, nat_cmp}
use Rattle.std.proofs.lemmas.Bool.{and_parts}
use Rattle.std.proofs.lemmas.Cmp.{tied_itself, nat_list_cmp_total}
use Rattle.std.proofs.lemmas.List.Sums.{sum_by-cons, length-filter}
use Rattle.acl_names.specs.Paths.{path_cmp, PathOf}
use Rattle.acl_names.proofs.Basics.{not_both, and_false, some_same, sum_times, to_T}
use Rattle.acl_names.proofs.PathOrder.{path_total, exact_paths}
use Rattle.path_map.specs.Entries.{IsInOrder}
use Rattle.path_map.specs.Inner.{After}
use Rattle.path_map.specs.Merged.{has, put_all, without_all, merged}
use Rattle.path_map.proofs.Merges.{later_after, in_order-merged}
use Rattle.path_map.proofs.Rows.{find_merged}
use Rattle.acl_entry.specs.Person.{Person}
use Rattle.acl_entry.specs.declared.label.Label.{Label}
use Rattle.kinds.specs.Numbered.{Kept, Numbers, AreUsed, entries_in}
use Rattle.path_classes.specs.declared.label_row.LabelRow.{LabelRow}
use Rattle.path_classes.specs.ClassedRows.{SameAnswers, AreCounted}
use Rattle.path_classes.specs.ClassesWithin.{is_inside, inside}
use Rattle.path_classes.specs.KindRows.{RowedPaths, rows_at}
use Rattle.path_classes.specs.ReachedRows.{reached_rows, reached_at}
use Rattle.acl_rights.specs.KindRows.{label_row, rowed_labels, with_label, AreRowsOf, BeginWithRoot}
use Rattle.acl_rights.specs.Rows.{Verdict}
use Rattle.acl_rights.proofs.Counted.{all_counted, entries_counted}
use Rattle.acl_rights.proofs.Orders.{in_order-values}
use Rattle.acl_rights.proofs.RowsOfKinds.{rows_left}

-- ---- a count in two steps

same_items : (xs ys : List ℕ) → ((at : ℕ) → slice_get xs at ≡ slice_get ys at) → xs ≡ ys
same_items [] [] h = refl
same_items [] (y ∷ ys) h = let no : None ≡ Some y = h 0 in cc
same_items (x ∷ xs) [] h = let no : Some x ≡ None = h 0 in cc
same_items (x ∷ xs) (y ∷ ys) h = let first : Some x ≡ Some y = h 0 in λ i. some_same first i ∷ same_items xs ys (λ at. h (suc at)) i

one_parted : (a b : Bool) → cond a 1 0 ≤ cond (a && not b) 1 0 + cond b 1 0
one_parted true true = omega arith
one_parted true false = omega arith
one_parted false true = omega arith
one_parted false false = omega arith

count_parted : (f g : PathOf → Bool) (es : Numbers) → count_by (λ (e : PathOf × ℕ). f e.0) es ≤ count_by (λ (e : PathOf × ℕ). f e.0 && not (g e.0)) es + count_by (λ (e : PathOf × ℕ). g e.0) es
count_parted f g [] = omega arith
count_parted f g (e ∷ es) =
    let all = sum_by-cons (λ (x : PathOf × ℕ). cond (f x.0) 1 0) e es in
    let left = sum_by-cons (λ (x : PathOf × ℕ). cond (f x.0 && not (g x.0)) 1 0) e es in
    let right = sum_by-cons (λ (x : PathOf × ℕ). cond (g x.0) 1 0) e es in
    omega (arith, count_parted f g es, one_parted (f e.0) (g e.0), all, left, right)

module _ (old mid new : Kept LabelRow) where
  -- the answers of all users at a path
  abbrev answers : Kept LabelRow → PathOf → List ℕ
  answers k p = unwrap_or (find path_cmp p (reached_rows (rows_at (entries_in k)))) []

  answer_is : (k : Kept LabelRow) (p : PathOf) (user : ℕ) → reached_at (rows_at (entries_in k)) user p ≡ slice_get (answers k p) user
  answer_is k p user = by (find path_cmp p (reached_rows (rows_at (entries_in k))))
    where
      by : (o : Option (List ℕ)) → option_and_then (λ (cells : List ℕ). slice_get cells user) o ≡ slice_get (unwrap_or o []) user
      by None = refl
      by (Some cells) = refl

  -- whether an answer at a path is another one after the second step
  abbrev changes : PathOf → Bool
  changes p = not (is_eq (slice_cmp nat_cmp (answers mid p) (answers new p)))

  unchanged : (p : PathOf) → SameAnswers mid new p → changes p ≡ false
  unchanged p h =
      let same : answers mid p ≡ answers new p = same_items (answers mid p) (answers new p) (λ user. sym (answer_is mid p user) ∙ h user ∙ answer_is new p user) in
      ap (λ o. not (is_eq o)) (ap (slice_cmp nat_cmp (answers mid p)) (sym same) ∙ tied_itself nat_list_cmp_total (answers mid p))

  still : (p : PathOf) → changes p ≡ false → SameAnswers mid new p
  still p h user = answer_is mid p user ∙ ap (λ (cells : List ℕ). slice_get cells user) (same (slice_cmp nat_cmp (answers mid p) (answers new p)) refl h) ∙ sym (answer_is new p user)
    where
      same : (o : Ordering) → slice_cmp nat_cmp (answers mid p) (answers new p) ≡ o → not (is_eq o) ≡ false → answers mid p ≡ answers new p
      same Less is h = cc
      same Equal is h = slice_cmp-IsAntisymmetric nat_cmp-IsAntisymmetric (answers mid p) (answers new p) is
      same Greater is h = cc

  counted_twice : (one two : ℕ) → AreCounted old mid one → AreCounted mid new two → ((f : PathOf → Bool) → count_by (λ (e : PathOf × ℕ). f e.0) new.1 ≡ count_by (λ (e : PathOf × ℕ). f e.0) mid.1)
      → AreCounted old new (one + two)
  counted_twice one two first second paths differs stays =
      let a : count_by (λ (e : PathOf × ℕ). differs e.0 && not (changes e.0)) mid.1 ≤ one = first (λ p. differs p && not (changes p)) (λ p same. by p (changes p) refl same) in
      let b : count_by (λ (e : PathOf × ℕ). changes e.0) new.1 ≤ two = second changes unchanged in
      omega (arith, a, b, count_parted differs changes new.1, paths (λ p. differs p && not (changes p)))
    where
      by : (p : PathOf) (b : Bool) → changes p ≡ b → SameAnswers old mid p → (differs p && not b) ≡ false
      by p true is same = and_false (differs p)
      by p false is same = ap (λ b. b && true) (stays p (λ user. same user ∙ still p is user))

-- ---- a path that is there gets another row

count_put : (f : PathOf → Bool) (p : PathOf) (r : LabelRow) (es : RowedPaths) → IsInOrder es → has p es ≡ true
    → count_by (λ (e : PathOf × LabelRow). f e.0) (put path_cmp p r es) ≡ count_by (λ (e : PathOf × LabelRow). f e.0) es
count_put f p r [] order there = cc
count_put f p r (e ∷ es) order there = by (path_cmp p e.0) refl there (count_put f p r es (and_parts (below_all path_cmp e.0 es) (is_sorted path_cmp es) order).1)
  where
    none_after : (fs : RowedPaths) → path_cmp p e.0 ≡ Less → After e.0 fs → find path_cmp p fs ≡ None
    none_after [] lt h = refl
    none_after (x ∷ fs) lt h = ap (λ o. cond (is_eq o) (Some x.1) (find path_cmp p fs)) (path_total.trans p e.0 x.0 lt h.0) ∙ none_after fs lt h.1

    first : (x : PathOf × LabelRow) (fs : RowedPaths) → count_by (λ (e : PathOf × LabelRow). f e.0) (x ∷ fs) ≡ cond (f x.0) 1 0 + count_by (λ (e : PathOf × LabelRow). f e.0) fs
    first x fs = sum_by-cons (λ (e : PathOf × LabelRow). cond (f e.0) 1 0) x fs

    by : (o : Ordering) → path_cmp p e.0 ≡ o → is_some (cond (is_eq o) (Some e.1) (find path_cmp p es)) ≡ true
        → (has p es ≡ true → count_by (λ (e : PathOf × LabelRow). f e.0) (put path_cmp p r es) ≡ count_by (λ (e : PathOf × LabelRow). f e.0) es)
        → count_by (λ (e : PathOf × LabelRow). f e.0) (by_order o ((p, r) ∷ e ∷ es) ((e.0, r) ∷ es) (e ∷ put path_cmp p r es)) ≡ count_by (λ (e : PathOf × LabelRow). f e.0) (e ∷ es)
    by Less is h more = absurd (not_both (has p es) h (ap is_some (none_after es is (later_after e es order))))
    by Equal is h more = first (e.0, r) es ∙ sym (first e es)
    by Greater is h more = first e (put path_cmp p r es) ∙ ap (λ n. cond (f e.0) 1 0 + n) (more h) ∙ sym (first e es)

-- ---- where no path is gone

module _ {W : Type 0} (gone : List (PathOf × W)) (none : gone ≡ []) where
  without_none : (es : RowedPaths) → without_all gone es ≡ es
  without_none [] = refl
  without_none (e ∷ es) = λ i. cond (not (has e.0 (none i))) (e ∷ without_none es i) (without_none es i)

  -- a path is put before others, or after them
  put_last : (p : PathOf) (r : LabelRow) (ps es : RowedPaths) → IsInOrder es → IsInOrder ((p, r) ∷ ps) → merged ((p, r) ∷ []) gone (merged ps gone es) ≡ merged ((p, r) ∷ ps) gone es
  put_last p r ps es order puts =
      same_entries path_cmp path_total exact_paths _ _
      (to_T _ (in_order-merged ((p, r) ∷ []) gone (merged ps gone es) (in_order-merged ps gone es order)))
      (to_T _ (in_order-merged ((p, r) ∷ ps) gone es order))
      finds
    where
      either : (b : Bool) (o q : Option LabelRow) → option_or (cond b (Some r) None) (option_or o q) ≡ option_or (cond b (Some r) o) q
      either true o q = refl
      either false o q = refl

      finds : (q : PathOf) → find path_cmp q (merged ((p, r) ∷ []) gone (merged ps gone es)) ≡ find path_cmp q (merged ((p, r) ∷ ps) gone es)
      finds q =
          find_merged q ((p, r) ∷ []) gone (merged ps gone es) refl
          ∙ (λ i. option_or (find path_cmp q ((p, r) ∷ []))
          (cond (has q (none i)) None (find_merged q ps gone es (and_parts (below_all path_cmp p ps) (is_sorted path_cmp ps) puts).1 i)))
          ∙ (λ i. option_or (find path_cmp q ((p, r) ∷ [])) (option_or (find path_cmp q ps) (cond (has q (none i)) None (find path_cmp q es))))
          ∙ either (eq_by_cmp path_cmp q p) (find path_cmp q ps) (find path_cmp q es)
          ∙ (λ i. option_or (find path_cmp q ((p, r) ∷ ps)) (cond (has q (sym none i)) None (find path_cmp q es)))
          ∙ sym (find_merged q ((p, r) ∷ ps) gone es puts)

  still_there : (p : PathOf) (ps es : RowedPaths) → IsInOrder ps → has p es ≡ true → has p (merged ps gone es) ≡ true
  still_there p ps es order there =
      ap is_some (find_merged p ps gone es order ∙ (λ i. option_or (find path_cmp p ps) (cond (has p (none i)) None (find path_cmp p es)))) ∙ by (find path_cmp p ps) (find path_cmp p es) there
    where
      by : (o q : Option LabelRow) → is_some q ≡ true → is_some (option_or o q) ≡ true
      by None q h = h
      by (Some x) q h = refl

-- ---- rows of labels

module _ (V : Verdict) (us : List Person) where
  row_put : (p : PathOf) (l : Label) (es : RowedPaths) → AreRowsOf V us es → AreRowsOf V us (put path_cmp p (label_row V us l) es)
  row_put p l [] all = (refl, tt)
  row_put p l (e ∷ es) all = by (path_cmp p e.0) (row_put p l es all.1)
    where
      by : (o : Ordering) → AreRowsOf V us (put path_cmp p (label_row V us l) es)
          → AreRowsOf V us (by_order o ((p, label_row V us l) ∷ e ∷ es) ((e.0, label_row V us l) ∷ es) (e ∷ put path_cmp p (label_row V us l) es))
      by Less more = (refl, all)
      by Equal more = (refl, all.1)
      by Greater more = (all.0, more)

  rows_put : (ls : List (PathOf × Label)) (es : RowedPaths) → AreRowsOf V us es → AreRowsOf V us (put_all (rowed_labels V us ls) es)
  rows_put [] es all = all
  rows_put (l ∷ ls) es all = rows_put ls (put path_cmp l.0 (label_row V us l.1) es) (row_put l.0 l.1 es all)

  -- rows with those of labels put are those of their labels
  pub rows_with : {W : Type 0} (ls : List (PathOf × Label)) (gone : List (PathOf × W)) (es : RowedPaths) → AreRowsOf V us es → AreRowsOf V us (merged (rowed_labels V us ls) gone es)
  rows_with ls gone es all = rows_put ls (without_all gone es) (rows_left V us gone es all)

-- ---- the root and the others

pub first_and_others : {A : Type 0} (xs : List A) (x : A) → 0 < length xs → x ≡ get_or xs 0 x → xs ≡ x ∷ drop 1 xs
first_and_others [] x some is = absurd (omega (arith, some))
first_and_others (y ∷ xs) x some is = ap (λ z. z ∷ xs) (sym is)

-- what both parts cost is what all cost
pub cost_parted : (one others all users : ℕ) → one ≡ 1 → others + 1 ≡ all → others * users + one * users ≡ all * users
cost_parted one others all users is sum = sym (sum_times others one users) ∙ ap (λ n. n * users) (ap (λ n. others + n) is ∙ sum)

module _ {W : Type 0} (es : RowedPaths) (changed root others : List (Bor PathOf × Bor Label)) (gone : List (PathOf × W)) (b : BeginWithRoot es (map with_label changed) gone)
    (front : root ≡ take 1 changed) (back : others ≡ drop 1 changed) where
  root_is : map with_label root ≡ ([], b.label) ∷ []
  root_is = ap (map with_label) front ∙ by changed ∙ ap (take 1) b.first
    where
      by : (ls : List (Bor PathOf × Bor Label)) → map with_label (take 1 ls) ≡ take 1 (map with_label ls)
      by [] = refl
      by (l ∷ ls) = refl

  others_are : map with_label others ≡ b.others
  others_are = ap (map with_label) back ∙ by changed ∙ ap (drop 1) b.first
    where
      by : (ls : List (Bor PathOf × Bor Label)) → map with_label (drop 1 ls) ≡ drop 1 (map with_label ls)
      by [] = refl
      by (l ∷ ls) = refl

  pub order_root : IsInOrder (map with_label root)
  order_root = subst (λ (ls : List (PathOf × Label)). IsInOrder ls) (sym root_is) refl

  pub order_others : IsInOrder (map with_label changed) → IsInOrder (map with_label others)
  order_others order =
      subst (λ (ls : List (PathOf × Label)). IsInOrder ls) (sym others_are)
      (and_parts (below_all path_cmp [] b.others) (is_sorted path_cmp b.others) (subst (λ (ls : List (PathOf × Label)). IsInOrder ls) b.first order)).1

-- all files are at or below the root
pub all_inside : {V : Type 0} (tops more : List PathOf) → tops ≡ [] ∷ more → (es : List (PathOf × V)) → length (inside tops es) ≡ length es
all_inside {V = V} tops more is es =
    length-filter (λ (e : PathOf × V). is_inside tops e.0) es
    ∙ all_counted (λ (e : PathOf × V). is_inside tops e.0) (λ e. ap (λ (ts : List PathOf). is_inside ts e.0) is) es

-- the root after the others
module _ {W : Type 0} (V : Verdict) (us : List Person) (old mid new : Kept LabelRow) (changed root others : List (Bor PathOf × Bor Label)) (gone : List (PathOf × W))
    (b : BeginWithRoot (entries_in old) (map with_label changed) gone) (front : root ≡ take 1 changed) (back : others ≡ drop 1 changed)
    (order_old : IsInOrder (entries_in old)) (order : IsInOrder (map with_label changed))
    (mid_is : entries_in mid ≡ merged (rowed_labels V us (map with_label others)) gone (entries_in old))
    (new_is : entries_in new ≡ merged (rowed_labels V us (map with_label root)) gone (entries_in mid)) where
  abbrev rows : RowedPaths
  rows = rowed_labels V us b.others

  abbrev row : LabelRow
  row = label_row V us b.label

  order_all : IsInOrder (([], row) ∷ rows)
  order_all = in_order-values (λ (e : PathOf × Label). label_row V us e.1) (([], b.label) ∷ b.others) (subst (λ (ls : List (PathOf × Label)). IsInOrder ls) b.first order)

  between_is : entries_in mid ≡ merged rows gone (entries_in old)
  between_is = mid_is ∙ ap (λ (ls : List (PathOf × Label)). merged (rowed_labels V us ls) gone (entries_in old)) (others_are (entries_in old) changed root others gone b front back)

  after_is : entries_in new ≡ merged (([], row) ∷ []) gone (entries_in mid)
  after_is = new_is ∙ ap (λ (ls : List (PathOf × Label)). merged (rowed_labels V us ls) gone (entries_in mid)) (root_is (entries_in old) changed root others gone b front back)

  pub rows_twice : entries_in new ≡ merged (rowed_labels V us (map with_label changed)) gone (entries_in old)
  rows_twice =
      after_is
      ∙ ap (merged (([], row) ∷ []) gone) between_is
      ∙ put_last gone b.none [] row rows (entries_in old) order_old order_all
      ∙ ap (λ (ls : List (PathOf × Label)). merged (rowed_labels V us ls) gone (entries_in old)) (sym b.first)

  order_mid : IsInOrder (entries_in mid)
  order_mid = subst (λ (es : RowedPaths). IsInOrder es) (sym between_is) (in_order-merged rows gone (entries_in old) order_old)

  there_mid : has [] (entries_in mid) ≡ true
  there_mid =
      ap (λ (es : RowedPaths). has [] es) between_is
      ∙ still_there gone b.none [] rows (entries_in old) (and_parts (below_all path_cmp [] rows) (is_sorted path_cmp rows) order_all).1 b.there

  module _ (used_mid : AreUsed mid.0 mid.1) (used_new : AreUsed new.0 new.1) where
    same_paths : (f : PathOf → Bool) → count_by (λ (e : PathOf × ℕ). f e.0) new.1 ≡ count_by (λ (e : PathOf × ℕ). f e.0) mid.1
    same_paths f =
        entries_counted new.0 f new.1 used_new
        ∙ ap (count_by (λ (e : PathOf × LabelRow). f e.0)) (after_is ∙ ap (put path_cmp [] row) (without_none gone b.none (entries_in mid)))
        ∙ count_put f [] row (entries_in mid) order_mid there_mid
        ∙ sym (entries_counted mid.0 f mid.1 used_mid)

    pub both_counted : (one two : ℕ) → AreCounted old mid one → AreCounted mid new two → AreCounted old new (one + two)
    both_counted one two first second = counted_twice old mid new one two first second same_paths
