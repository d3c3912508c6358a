-- Records with different paths that are sorted by their paths are the records in path order.
use Rattle.std.proofs.Common.{◌≡◌, ◌≤◌, ◌+◌, suc, arith, Bool, true, false, cond, T, List, [], ◌∷◌, map, length, Option, Some, None, Ordering, Less, Equal, Greater, refl, sym, ap, subst, ◌∙◌}
use Rattle.std.specs.Prelude.{fold, slice_index_or, ◌&&◌, ◌||◌}
use Rattle.std.specs.Option.{option_or}
use Rattle.std.specs.Ordering.{is_eq, is_lt, ordering_reverse}
use Rattle.std.specs.List.{list_any, filter, AllByRecursion}
use Rattle.std.specs.List.Sorted.{IsSortedBy, IsPermutation}
use Rattle.std.specs.FinMap.{find, put, is_sorted}
use Rattle.std.specs.Cmp.{IsStrictWeakOrder, tied_itself}
use Rattle.std.proofs.lemmas.List.Elements.{All-from_recursion, recursion_from_All}
use Rattle.std.proofs.lemmas.List.MinMax.{ranks_by}
use Rattle.std.proofs.lemmas.List.Sorted.{All-permutation, sum_by-IsPermutation}
use Rattle.std.proofs.lemmas.List.Sums.{length-filter}
use Rattle.std.specs.FinMap.Entries.{by_order, below_all, find-put, is_sorted-put, same_entries}
use Rattle.acl_names.specs.Paths.{path_cmp, PathOf}
use Rattle.acl_names.proofs.PathOrder.{path_total, exact_paths}
use Rattle.acl_names.proofs.Basics.{is_equal, not_first, and_second as rest, not_both}
use Rattle.acl_text.specs.declared.record.DumpRecord.{DumpRecord}
use Rattle.acl_text.specs.OwnPaths.{have_own_paths}
use Rattle.acl_text.specs.Records.{same_path, is_repeated}
use Rattle.acl_tree.specs.Loading.{insert_record, in_path_order, record_at}

abbrev has : PathOf → DumpRecord → Bool
has p r = same_path p r.path

abbrev pub is_before : DumpRecord → DumpRecord → Bool
is_before r s = is_lt (path_cmp r.path s.path)

pub by_paths : IsStrictWeakOrder is_before
by_paths = ranks_by path_total (λ (r : DumpRecord). r.path)

abbrev first : List DumpRecord → Option DumpRecord
first [] = None
first (r ∷ rs) = Some r

-- the records as a map from their paths
abbrev by_path : List DumpRecord → List (PathOf × DumpRecord)
by_path rs = map (λ r. (r.path, r)) rs

-- ---- the records in path order, as a map

put_insert : (r : DumpRecord) (rs : List DumpRecord) → by_path (insert_record r rs) ≡ put path_cmp r.path r (by_path rs)
put_insert r [] = refl
put_insert r (s ∷ rs) = at (path_cmp r.path s.path) refl (put_insert r rs)
  where
    at : (o : Ordering) → path_cmp r.path s.path ≡ o → by_path (insert_record r rs) ≡ put path_cmp r.path r (by_path rs)
        → by_path (by_order o (r ∷ s ∷ rs) (r ∷ rs) (s ∷ insert_record r rs))
        ≡ by_order o ((r.path, r) ∷ by_path (s ∷ rs)) ((s.path, r) ∷ by_path rs) ((s.path, s) ∷ put path_cmp r.path r (by_path rs))
    at Less is more = refl
    at Equal is more = ap (λ p. (p, r) ∷ by_path rs) (exact_paths r.path s.path is)
    at Greater is more = ap (λ l. (s.path, s) ∷ l) more

fold_sorted : (rs done : List DumpRecord) → T (is_sorted path_cmp (by_path done)) → T (is_sorted path_cmp (by_path (fold (λ sorted r. insert_record r sorted) done rs)))
fold_sorted [] done sorted = sorted
fold_sorted (r ∷ rs) done sorted = fold_sorted rs (insert_record r done)
    (subst (λ es. T (is_sorted path_cmp es)) (sym (put_insert r done)) (is_sorted-put path_cmp path_total r.path r (by_path done) sorted))

or_none : (o : Option DumpRecord) → option_or o None ≡ o
or_none None = refl
or_none (Some r) = refl

later : (o : Option DumpRecord) (b : Bool) (r : DumpRecord) (old : Option DumpRecord) → option_or o (cond b (Some r) old) ≡ option_or (option_or o (cond b (Some r) None)) old
later (Some s) b r old = refl
later None true r old = refl
later None false r old = refl

fold_found : (p : PathOf) (rs done : List DumpRecord) → find path_cmp p (by_path (fold (λ sorted r. insert_record r sorted) done rs)) ≡ option_or (record_at p rs) (find path_cmp p (by_path done))
fold_found p [] done = refl
fold_found p (r ∷ rs) done =
    fold_found p rs (insert_record r done)
    ∙ ap (λ o. option_or (record_at p rs) o) (ap (λ es. find path_cmp p es) (put_insert r done) ∙ find-put path_cmp path_total p r.path r (by_path done))
    ∙ later (record_at p rs) (has p r) r (find path_cmp p (by_path done))

-- ---- different paths

none_pass : (t : DumpRecord → Bool) (rs : List DumpRecord) → list_any t rs ≡ false → filter t rs ≡ []
none_pass t [] h = refl
none_pass t (r ∷ rs) h = at (t r) h (none_pass t rs)
  where
    at : (b : Bool) → (b || list_any t rs) ≡ false → (list_any t rs ≡ false → filter t rs ≡ []) → cond b (r ∷ filter t rs) (filter t rs) ≡ []
    at true h more = absurd (subst T h tt)
    at false h more = more h

few : (p : PathOf) (rs : List DumpRecord) → have_own_paths rs ≡ true → length (filter (has p) rs) ≤ 1
few p [] apart = omega arith
few p (r ∷ rs) apart = at (has p r) refl (few p rs (rest (is_repeated rs r.path) (have_own_paths rs) apart))
  where
    at : (b : Bool) → has p r ≡ b → length (filter (has p) rs) ≤ 1 → length (cond b (r ∷ filter (has p) rs) (filter (has p) rs)) ≤ 1
    at true is fewer =
        let same = exact_paths p r.path (is_equal (path_cmp p r.path) is) in
        let none : filter (has p) rs ≡ [] = none_pass (has p) rs (ap (λ q. is_repeated rs q) same ∙ not_first (is_repeated rs r.path) (have_own_paths rs) apart) in
        let none_left : length (filter (has p) rs) ≡ 0 = ap (λ (l : List DumpRecord). length l) none in
        omega (arith, none_left)
    at false is fewer = fewer

found_first : (p : PathOf) (rs : List DumpRecord) → find path_cmp p (by_path rs) ≡ first (filter (has p) rs)
found_first p [] = refl
found_first p (r ∷ rs) = elim (has p r) as (λ b. cond b (Some r) (find path_cmp p (by_path rs)) ≡ first (cond b (r ∷ filter (has p) rs) (filter (has p) rs))) [ true ↦ refl | false ↦ found_first p rs ]

no_length : (rs : List DumpRecord) → suc (length rs) ≤ 1 → rs ≡ []
no_length [] h = refl
no_length (r ∷ rs) h = absurd (omega (arith, h))

last_is_first : (p : PathOf) (rs : List DumpRecord) → length (filter (has p) rs) ≤ 1 → record_at p rs ≡ first (filter (has p) rs)
last_is_first p [] h = refl
last_is_first p (r ∷ rs) h = at (has p r) h (last_is_first p rs)
  where
    at : (b : Bool) → length (cond b (r ∷ filter (has p) rs) (filter (has p) rs)) ≤ 1
        → (length (filter (has p) rs) ≤ 1 → record_at p rs ≡ first (filter (has p) rs)) → option_or (record_at p rs) (cond b (Some r) None) ≡ first (cond b (r ∷ filter (has p) rs) (filter (has p) rs))
    at true h more =
        let none = no_length (filter (has p) rs) h in
        let gone : record_at p rs ≡ None = more (subst (λ (l : List DumpRecord). length l ≤ 1) (sym none) (omega arith)) ∙ ap (λ l. first l) none in
        ap (λ o. option_or o (Some r)) gone
    at false h more = or_none (record_at p rs) ∙ more h

-- ---- sorted records

not_empty : (r : DumpRecord) (rs : List DumpRecord) → r ∷ rs ≡ [] → ⊥
not_empty r rs e = cc

length_zero : (rs : List DumpRecord) → length rs ≡ 0 → rs ≡ []
length_zero [] h = refl
length_zero (r ∷ rs) h = absurd (omega (arith, h))

-- of records of which at most one passes a test, that one is known in any order
module _ (t : DumpRecord → Bool) (fs : List DumpRecord) where
  abbrev IsThatOne : DumpRecord → Type 0
  IsThatOne r = t r ≡ true → fs ≡ r ∷ []

  none_is : (rs : List DumpRecord) → filter t rs ≡ [] → AllByRecursion IsThatOne rs
  none_is [] none = tt
  none_is (r ∷ rs) none = at (t r) refl none (none_is rs)
    where
      at : (b : Bool) → t r ≡ b → cond b (r ∷ filter t rs) (filter t rs) ≡ [] → (filter t rs ≡ [] → AllByRecursion IsThatOne rs) → IsThatOne r × AllByRecursion IsThatOne rs
      at true is none more = absurd (not_empty r (filter t rs) none)
      at false is none more = (λ passes. absurd (not_both (t r) passes is), more none)

  one_is : (rs : List DumpRecord) → filter t rs ≡ fs → length fs ≤ 1 → AllByRecursion IsThatOne rs
  one_is [] are small = tt
  one_is (r ∷ rs) are small = at (t r) refl are (one_is rs)
    where
      at : (b : Bool) → t r ≡ b → cond b (r ∷ filter t rs) (filter t rs) ≡ fs → (filter t rs ≡ fs → length fs ≤ 1 → AllByRecursion IsThatOne rs) → IsThatOne r × AllByRecursion IsThatOne rs
      at true is are more =
          let alone : suc (length (filter t rs)) ≤ 1 = omega (arith, small, ap (λ (l : List DumpRecord). length l) are) in
          let others = no_length (filter t rs) alone in
          (λ passes. sym are ∙ ap (λ l. r ∷ l) others, none_is rs others)
      at false is are more = (λ passes. absurd (not_both (t r) passes is), more are small)

  are_these : (rs : List DumpRecord) → AllByRecursion IsThatOne rs → length (filter t rs) ≡ length fs → length fs ≤ 1 → filter t rs ≡ fs
  are_these [] are same small = sym (length_zero fs (omega (arith, same)))
  are_these (r ∷ rs) are same small = at (t r) refl same (are_these rs are.1)
    where
      at : (b : Bool) → t r ≡ b → length (cond b (r ∷ filter t rs) (filter t rs)) ≡ length fs
          → (length (filter t rs) ≡ length fs → length fs ≤ 1 → filter t rs ≡ fs) → cond b (r ∷ filter t rs) (filter t rs) ≡ fs
      at true is same more =
          let alone : suc (length (filter t rs)) ≤ 1 = omega (arith, small, same) in
          ap (λ l. r ∷ l) (no_length (filter t rs) alone) ∙ sym (are.0 is)
      at false is same more = more same small

in_any_order : (t : DumpRecord → Bool) (xs ys : List DumpRecord) → IsPermutation xs ys → length (filter t xs) ≤ 1 → filter t ys ≡ filter t xs
in_any_order t xs ys shuffled small =
    let fs = filter t xs in
    let as_many : length (filter t ys) ≡ length fs = length-filter t ys ∙ sum_by-IsPermutation (λ r. cond (t r) 1 0) xs ys shuffled ∙ sym (length-filter t xs) in
    let all = All-permutation (IsThatOne t fs) xs ys shuffled (All-from_recursion (IsThatOne t fs) xs (one_is t fs xs refl small)) in
    are_these t fs ys (recursion_from_All (IsThatOne t fs) ys all) as_many small

both : (a b : Bool) → T a → T b → T (a && b)
both true b p q = q
both false b p q = p

first_of : (a b : Bool) → T (a && b) → T a
first_of true b h = tt
first_of false b h = h

second_of : (a b : Bool) → T (a && b) → T b
second_of true b h = h
second_of false b h = absurd h

is_less : (o : Ordering) → T (is_lt o) → o ≡ Less
is_less Less h = refl
is_less Equal h = absurd h
is_less Greater h = absurd h

below_less : (r s : PathOf) (es : List (PathOf × DumpRecord)) → path_cmp r s ≡ Less → T (below_all path_cmp s es) → T (below_all path_cmp r es)
below_less r s [] less h = tt
below_less r s (e ∷ es) less h =
    let next = first_of (is_lt (path_cmp s e.0)) (below_all path_cmp s es) h in
    both (is_lt (path_cmp r e.0)) (below_all path_cmp r es) (subst (λ o. T (is_lt o)) (sym (path_total.trans r s e.0 less (is_less (path_cmp s e.0) next))) tt)
    (below_less r s es less (second_of (is_lt (path_cmp s e.0)) (below_all path_cmp s es) h))

sorted_tail : (r : DumpRecord) (rs : List DumpRecord) → IsSortedBy is_before (r ∷ rs) → IsSortedBy is_before rs
sorted_tail r rs sorted k d low within =
    let shifted : suc k + 1 ≡ suc (k + 1) = omega arith in
    subst (λ m. is_before (slice_index_or (r ∷ rs) m d) (slice_index_or rs k d) ≡ false) shifted (sorted (suc k) d (omega arith) (omega (arith, within)))

rising : (rs : List DumpRecord) → IsSortedBy is_before rs → ((p : PathOf) → length (filter (has p) rs) ≤ 1) → T (is_sorted path_cmp (by_path rs))
rising [] sorted alone = tt
rising (r ∷ []) sorted alone = tt
rising (r ∷ s ∷ rs) sorted alone =
    let rest = rising (s ∷ rs) (sorted_tail r (s ∷ rs) sorted) (λ p. shorter p (has p r) (alone p)) in
    let less : path_cmp r.path s.path ≡ Less = apart (path_cmp r.path s.path) refl in
    both (below_all path_cmp r.path (by_path (s ∷ rs))) (is_sorted path_cmp (by_path (s ∷ rs)))
    (both (is_lt (path_cmp r.path s.path)) (below_all path_cmp r.path (by_path rs)) (subst (λ o. T (is_lt o)) (sym less) tt)
    (below_less r.path s.path (by_path rs) less (first_of (below_all path_cmp s.path (by_path rs)) (is_sorted path_cmp (by_path rs)) rest)))
    rest
  where
    shorter : (p : PathOf) (b : Bool) → length (cond b (r ∷ filter (has p) (s ∷ rs)) (filter (has p) (s ∷ rs))) ≤ 1 → length (filter (has p) (s ∷ rs)) ≤ 1
    shorter p true h = omega (arith, h)
    shorter p false h = h

    itself : has r.path r ≡ true
    itself = ap is_eq (tied_itself path_total r.path)

    twice : (a b : Bool) (fs : List DumpRecord) → a ≡ true → b ≡ true → length (cond a (r ∷ cond b (s ∷ fs) fs) (cond b (s ∷ fs) fs)) ≤ 1 → ⊥
    twice true true fs p q h = omega (arith, h)
    twice true false fs p q h = subst T (sym q) tt
    twice false b fs p q h = subst T (sym p) tt

    apart : (o : Ordering) → path_cmp r.path s.path ≡ o → o ≡ Less
    apart Less is = refl
    apart Equal is = absurd (twice (has r.path r) (has r.path s) (filter (has r.path) rs) itself (ap is_eq is) (alone r.path))
    apart Greater is = absurd (subst T (ap is_lt (sym (path_total.antisymm s.path r.path ∙ ap ordering_reverse is)) ∙ sorted 0 r (omega arith) (omega arith)) tt)

values_of : (rs : List DumpRecord) → map (λ e. e.1) (by_path rs) ≡ rs
values_of [] = refl
values_of (r ∷ rs) = ap (λ l. r ∷ l) (values_of rs)

pub sorted_are : (xs ys : List DumpRecord) → have_own_paths xs ≡ true → IsSortedBy is_before ys → IsPermutation xs ys → ys ≡ in_path_order xs
sorted_are xs ys apart sorted shuffled =
    sym (values_of ys) ∙ ap (λ es. map (λ e. e.1) es) same_maps ∙ values_of (in_path_order xs)
  where
    alike : (p : PathOf) → filter (has p) ys ≡ filter (has p) xs
    alike p = in_any_order (has p) xs ys shuffled (few p xs apart)

    at_most_one : (p : PathOf) → length (filter (has p) ys) ≤ 1
    at_most_one p = subst (λ (l : List DumpRecord). length l ≤ 1) (sym (alike p)) (few p xs apart)

    look_ups : (p : PathOf) → find path_cmp p (by_path ys) ≡ find path_cmp p (by_path (in_path_order xs))
    look_ups p = found_first p ys ∙ ap (λ l. first l) (alike p) ∙ sym (fold_found p xs [] ∙ or_none (record_at p xs) ∙ last_is_first p xs (few p xs apart))

    same_maps : by_path ys ≡ by_path (in_path_order xs)
    same_maps = same_entries path_cmp path_total exact_paths (by_path ys) (by_path (in_path_order xs)) (rising ys sorted at_most_one) (fold_sorted xs [] tt) look_ups
