-- Files counted class by class: each number is counted as soon as one of its files is met.
use Rattle.std.proofs.Common.{◌≡◌, ℕ, ◌+◌, ◌<◌, ◌≤◌, Bool, true, false, cond, ◌||◌, List, [], ◌∷◌, ◌++◌, append_assoc, append-nil, map, get_or, Option, Some, None, refl, sym, ap, subst, ◌∙◌, arith}
use Rattle.std.specs.Prelude.{◌==◌, option_map, is_some, slice_get, count_by, nat_lt, drop}
use Rattle.std.specs.List.{AllByRecursion, find}
use Rattle.std.specs.Option.{option_map_or, option_or}
use Rattle.std.proofs.Common.{ap, subst, ◌∙◌, arith, ltb-true, ltb-false}
use Rattle.std.proofs.lemmas.Bool.{eqb-true}
use Rattle.std.proofs.lemmas.List.{map-append}
use Rattle.std.proofs.lemmas.List.Folds.{list_any-append}
use Rattle.std.proofs.lemmas.List.Sums.{sum_by-cons}
use Rattle.std.proofs.lemmas.Option.{none-some}
use Rattle.acl_names.specs.Paths.{PathOf}
use Rattle.acl_names.proofs.Basics.{all_end}
use Rattle.path_map.specs.Entries.{first}
use Rattle.kinds.specs.Numbered.{Numbers, paths_with, one_if}
use Rattle.kinds.specs.Tagged.{is_one}
use Rattle.path_classes.specs.ClassCounts.{AreAll, is_met, AreMetBelow, passes, IsPlacePut, AreMeeting}
use Rattle.path_classes.specs.NumberedRows.{FilesLeft, files_with, row_at, rows_met, rows_by, AreMet}
use Rattle.path_classes.specs.Tallies.{Tallied, one, count_where, first_where, AreTallied}
use Rattle.path_classes.proofs.FoundWithin.{all_mapped}
use Rattle.path_classes.proofs.Tallies.{count_append, first_append, first_path_append}

abbrev Met : List (Option ℕ) → Numbers → Type 0
Met places es = AllByRecursion (λ e. is_met places e.1 ≡ true) es

abbrev one_of : Bool → ℕ
one_of b = cond b 1 0

abbrev first_in : (ℕ → Bool) → Numbers → Option PathOf
first_in test es = option_map (λ e. e.0) (find (λ e. test e.1) es)

-- ---- a number is met

module _ (old new : List (Option ℕ)) (n at : ℕ) (none : get_or old n None ≡ None) (put : IsPlacePut old n at new) where
  placed : (m : ℕ) → (m == n) ≡ true → get_or new m None ≡ Some at
  placed m is = put m ∙ ap (λ b. cond b (Some at) (get_or old m None)) is

  as_before : (m : ℕ) → (m == n) ≡ false → get_or new m None ≡ get_or old m None
  as_before m is = put m ∙ ap (λ b. cond b (Some at) (get_or old m None)) is

  was_none : (m : ℕ) → (m == n) ≡ true → get_or old m None ≡ None
  was_none m is = ap (λ k. get_or old k None) (eqb-true m n is) ∙ none

  pub still_met : (m : ℕ) → is_met old m ≡ true → is_met new m ≡ true
  still_met m met = by (m == n) refl
    where
      by : (b : Bool) → (m == n) ≡ b → is_met new m ≡ true
      by true is = ap is_some (placed m is)
      by false is = ap is_some (as_before m is) ∙ met

  module _ (test : ℕ → Bool) where
    count_here : (m : ℕ) (b : Bool) → (m == n) ≡ b → one_of (passes test new m) ≡ one_of (passes test old m) + cond (test at) (one_of b) 0
    count_here m true is =
        ap (λ o. one_of (option_map_or test o false)) (placed m is) ∙ by (test at)
        ∙ ap (λ o. one_of (option_map_or test o false) + cond (test at) 1 0) (sym (was_none m is))
      where
        by : (t : Bool) → one_of t ≡ 0 + cond t 1 0
        by true = refl
        by false = refl
    count_here m false is = ap (λ o. one_of (option_map_or test o false)) (as_before m is) ∙ by (test at) (one_of (passes test old m))
      where
        by : (t : Bool) (x : ℕ) → x ≡ x + cond t 0 0
        by true x = omega arith
        by false x = omega arith

    pub count_put : (es : Numbers) → count_by (λ e. passes test new e.1) es ≡ count_by (λ e. passes test old e.1) es + cond (test at) (paths_with n es) 0
    count_put [] = by (test at)
      where
        by : (t : Bool) → 0 ≡ 0 + cond t 0 0
        by true = refl
        by false = refl
    count_put (e ∷ es) =
        let after = sum_by-cons (λ (x : PathOf × ℕ). one_of (passes test new x.1)) e es in
        let before = sum_by-cons (λ (x : PathOf × ℕ). one_of (passes test old x.1)) e es in
        after ∙ by (test at) (one_of (passes test new e.1)) (one_of (passes test old e.1)) (one_of (e.1 == n)) (count_by (λ x. passes test new x.1) es)
        (count_by (λ x. passes test old x.1) es) (paths_with n es) (count_here e.1 (e.1 == n) refl) (count_put es)
        ∙ ap (λ k. k + cond (test at) (paths_with n (e ∷ es)) 0) (sym before)
      where
        by : (t : Bool) (x y b xs ys bs : ℕ) → x ≡ y + cond t b 0 → xs ≡ ys + cond t bs 0 → x + xs ≡ (y + ys) + cond t (b + bs) 0
        by true x y b xs ys bs here more = omega (arith, here, more)
        by false x y b xs ys bs here more = omega (arith, here, more)

    none_is_no : (o : Option ℕ) → o ≡ None → is_some o ≡ true → ⊥
    none_is_no None is met = cc met
    none_is_no (Some k) is met = cc is

    -- files whose numbers were met pass as before
    met_passes : (m : ℕ) → is_met old m ≡ true → passes test new m ≡ passes test old m
    met_passes m met = by (m == n) refl
      where
        by : (b : Bool) → (m == n) ≡ b → passes test new m ≡ passes test old m
        by true is = absurd (none_is_no (get_or old m None) (was_none m is) met)
        by false is = ap (λ o. option_map_or test o false) (as_before m is)

    pub find_put : (es : Numbers) → Met old es → first_in (passes test new) es ≡ first_in (passes test old) es
    find_put [] met = refl
    find_put (e ∷ es) met =
        ap (λ b. option_map (λ (x : PathOf × ℕ). x.0) (cond b (Some e) (find (λ x. passes test new x.1) es))) (met_passes e.1 met.0)
        ∙ by (passes test old e.1) (find_put es met.1)
      where
        by : (b : Bool) → first_in (passes test new) es ≡ first_in (passes test old) es
            → option_map (λ (x : PathOf × ℕ). x.0) (cond b (Some e) (find (λ x. passes test new x.1) es)) ≡ option_map (λ (x : PathOf × ℕ). x.0) (cond b (Some e) (find (λ x. passes test old x.1) es))
        by true more = refl
        by false more = more

-- ---- one file after another

module _ (all left : Numbers) (places : List (Option ℕ)) (found : List (Tallied ℕ)) where
  -- a number that is met has a count
  counted_one : (test : ℕ → Bool) (ts : List (Tallied ℕ)) (at : ℕ) → is_one at (map (λ (t : Tallied ℕ). t.key) ts) ≡ true → test at ≡ true
      → (p : PathOf) × (first_where test ts ≡ Some p)
  counted_one test [] at has holds = absurd (cc has)
  counted_one test (t ∷ ts) at has holds = by (test t.key) refl (λ there. counted_one test ts at there holds)
    where
      by : (b : Bool) → test t.key ≡ b → (is_one at (map (λ (u : Tallied ℕ). u.key) ts) ≡ true → (p : PathOf) × (first_where test ts ≡ Some p))
          → (p : PathOf) × (option_map (λ (u : Tallied ℕ). u.first) (cond b (Some t) (find (λ u. test u.key) ts)) ≡ Some p)
      by true is more = (t.first, refl)
      by false is more = more (apart (t.key == at) refl)
        where
          apart : (b : Bool) → (t.key == at) ≡ b → is_one at (map (λ (u : Tallied ℕ). u.key) ts) ≡ true
          apart true same = absurd (let no : true ≡ false = sym holds ∙ sym (ap test (eqb-true t.key at same)) ∙ is in cc no)
          apart false same = sym (ap (λ b. b || is_one at (map (λ (u : Tallied ℕ). u.key) ts)) same) ∙ has

  module _ (w : AreMeeting all left places found) (test : ℕ → Bool) where
    -- files whose numbers are met, and that come later, are not the first
    pub keeps_first : (es : Numbers) → Met places es → option_or (first_where test found) (first_in (passes test places) es) ≡ first_where test found
    keeps_first [] met = or_none (first_where test found)
      where
        or_none : (o : Option PathOf) → option_or o None ≡ o
        or_none None = refl
        or_none (Some p) = refl
    keeps_first (e ∷ es) met = by (get_or places e.1 None) refl met.0 (keeps_first es met.1)
      where
        later : (b : Bool) → ((b ≡ true) → (p : PathOf) × (first_where test found ≡ Some p))
            → option_or (first_where test found) (first_in (passes test places) es) ≡ first_where test found
            → option_or (first_where test found) (option_map (λ (x : PathOf × ℕ). x.0) (cond b (Some e) (find (λ x. passes test places x.1) es))) ≡ first_where test found
        later true has more = let some = (has refl).1 in ap (λ o. option_or o (Some e.0)) some ∙ sym some
        later false has more = more

        by : (o : Option ℕ) → get_or places e.1 None ≡ o → is_some o ≡ true
            → option_or (first_where test found) (first_in (passes test places) es) ≡ first_where test found
            → option_or (first_where test found) (first_in (passes test places) (e ∷ es)) ≡ first_where test found
        by None is met_none more = absurd (cc met_none)
        by (Some at) is some more =
            ap (λ o. option_or (first_where test found) (option_map (λ (x : PathOf × ℕ). x.0) (cond (option_map_or test o false) (Some e) (find (λ x. passes test places x.1) es)))) is
            ∙ later (test at) (λ holds. counted_one test found at (w.kept e.1 at is) holds) more

-- the first file that is left has a number that is met
pub met_again : (all left : Numbers) (e : PathOf × ℕ) (places : List (Option ℕ)) (found : List (Tallied ℕ)) → is_met places e.1 ≡ true
    → AreMeeting all (e ∷ left) places found → AreMeeting all left places found
met_again all left e places found met w = record {
  seen = w.seen ++ e ∷ [];
  whole = append_assoc w.seen (e ∷ []) left ∙ w.whole;
  met = all_end (λ x. is_met places x.1 ≡ true) w.seen e w.met met;
  kept = w.kept;
  counts = w.counts;
  firsts = λ test.
      sym (keeps_first all (e ∷ left) places found w test (e ∷ []) (met, tt))
      ∙ ap (λ o. option_or o (first_in (passes test places) (e ∷ []))) (w.firsts test)
      ∙ sym (first_path_append (λ x. passes test places x.1) w.seen (e ∷ []));
}

-- its number is counted
pub met_first : (all left : Numbers) (e : PathOf × ℕ) (at count : ℕ) (old new : List (Option ℕ)) (found : List (Tallied ℕ)) → is_met old e.1 ≡ false → IsPlacePut old e.1 at new
    → count ≡ paths_with e.1 all → AreMeeting all (e ∷ left) old found → AreMeeting all left new (found ++ record { key = at; count = count; first = e.0 } ∷ [])
met_first all left e at count old new found unmet put is w = record {
  seen = w.seen ++ e ∷ [];
  whole = append_assoc w.seen (e ∷ []) left ∙ w.whole;
  met = all_end (λ x. is_met new x.1 ≡ true) w.seen e
      (all_mapped (λ x. is_met old x.1 ≡ true) (λ x. is_met new x.1 ≡ true) (λ x met. still_met old new e.1 at none put x.1 met) w.seen w.met) (ap is_some here);
  kept = kept;
  counts = λ test.
      count_append test found (t ∷ []) ∙ ap (λ k. k + count_where test (t ∷ [])) (w.counts test)
      ∙ (let one : count_where test (t ∷ []) ≡ cond (test at) (paths_with e.1 all) 0 = by (test at) in ap (λ k. count_by (λ x. passes test old x.1) all + k) one)
      ∙ sym (count_put old new e.1 at none put test all);
  firsts = λ test.
      first_append test found (t ∷ []) ∙ ap (λ o. option_or o (first_where test (t ∷ []))) (w.firsts test ∙ sym (find_put old new e.1 at none put test w.seen w.met))
      ∙ ap (option_or (first_in (passes test new) w.seen)) (last test)
      ∙ sym (first_path_append (λ x. passes test new x.1) w.seen (e ∷ []));
}
  where
    t : Tallied ℕ
    t = record { key = at; count = count; first = e.0 }

    none : get_or old e.1 None ≡ None
    none = by_none (get_or old e.1 None) unmet
      where
        by_none : (o : Option ℕ) → is_some o ≡ false → o ≡ None
        by_none None h = refl
        by_none (Some n) h = absurd (cc h)

    same : (e.1 == e.1) ≡ true
    same = grind arith

    here : get_or new e.1 None ≡ Some at
    here = put e.1 ∙ ap (λ b. cond b (Some at) (get_or old e.1 None)) same

    by : (b : Bool) → cond b count 0 + 0 ≡ cond b (paths_with e.1 all) 0
    by true = omega (arith, is)
    by false = refl

    last : (test : ℕ → Bool) → first_where test (t ∷ []) ≡ first_in (passes test new) (e ∷ [])
    last test = from (test at) ∙ ap (λ o. option_map (λ (x : PathOf × ℕ). x.0) (cond (option_map_or test o false) (Some e) None)) (sym here)
      where
        from : (b : Bool) → option_map (λ (u : Tallied ℕ). u.first) (cond b (Some t) None) ≡ option_map (λ (x : PathOf × ℕ). x.0) (cond b (Some e) None)
        from true = refl
        from false = refl

    kept : (m pl : ℕ) → get_or new m None ≡ Some pl → is_one pl (map (λ (u : Tallied ℕ). u.key) (found ++ t ∷ [])) ≡ true
    kept m pl has =
        ap (is_one pl) (map-append (λ (u : Tallied ℕ). u.key) found (t ∷ [])) ∙ list_any-append (λ k. k == pl) (map (λ (u : Tallied ℕ). u.key) found) (at ∷ [])
        ∙ from (m == e.1) refl
      where
        keys : List ℕ
        keys = map (λ (u : Tallied ℕ). u.key) found

        or_true : (b : Bool) → (b || true) ≡ true
        or_true true = refl
        or_true false = refl

        from : (b : Bool) → (m == e.1) ≡ b → (is_one pl keys || ((at == pl) || false)) ≡ true
        from true is_it =
            let last_one : at ≡ pl = some_one at pl (sym (placed old new e.1 at none put m is_it) ∙ has) in
            let equal : (at == pl) ≡ true = grind (arith, last_one) in
            ap (λ b. is_one pl keys || (b || false)) equal ∙ or_true (is_one pl keys)
          where
            some_one : (x y : ℕ) → Some x ≡ Some y → x ≡ y
            some_one x y h = cc h
        from false is_not = ap (λ b. b || ((at == pl) || false)) (w.kept m pl (sym (as_before old new e.1 at none put m is_not) ∙ has))

-- ---- when all numbers are met

-- each number of some files has a file
some_file : (es all : Numbers) → ((n : ℕ) → paths_with n es ≤ paths_with n all) → AllByRecursion (λ e. 0 < paths_with e.1 all) es
some_file [] all few = tt
some_file (e ∷ es) all few = (here, some_file es all (λ n. let more = few n in rest n more))
  where
    same : (e.1 == e.1) ≡ true
    same = grind arith

    here : 0 < paths_with e.1 all
    here =
        let more : cond (e.1 == e.1) 1 0 + paths_with e.1 es ≤ paths_with e.1 all = few e.1 in
        let one : cond (e.1 == e.1) 1 0 ≡ 1 = ap one_of same in
        omega (arith, more, one)

    rest : (n : ℕ) → one_if n e.1 + paths_with n es ≤ paths_with n all → paths_with n es ≤ paths_with n all
    rest n more = omega (arith, more)

pub all_met : (f : FilesLeft) (all : Numbers) (places : List (Option ℕ)) (unmet end : ℕ) → ((n : ℕ) → files_with f n ≡ paths_with n all) → AllByRecursion (λ e. e.1 < end) all
    → end ≤ unmet → AreMetBelow f places unmet → Met places all
all_met f all places unmet end whole below done met = each all below (some_file all all (λ n. omega arith))
  where
    each : (es : Numbers) → AllByRecursion (λ e. e.1 < end) es → AllByRecursion (λ e. 0 < paths_with e.1 all) es → Met places es
    each [] lt some = tt
    each (e ∷ es) lt some = (by (is_met places e.1) refl (met e.1 (let here = lt.0 in omega (arith, here, done))), each es lt.1 some.1)
      where
        by : (b : Bool) → is_met places e.1 ≡ b → (b || (files_with f e.1 == 0)) ≡ true → is_met places e.1 ≡ true
        by true is h = is
        by false is h =
            let none : files_with f e.1 ≡ 0 = eqb-true (files_with f e.1) 0 h in
            let here = some.0 in let count = whole e.1 in
            absurd (omega (arith, none, here, count))

module _ (f : FilesLeft) (places : List (Option ℕ)) (numbers : List ℕ) (met : AreMet f places numbers) where
  abbrev place : ℕ → ℕ
  place n = option_map_or (λ x. x) (get_or places n None) 0

  abbrev File : Type 0
  File = ℕ × (PathOf × List ℕ)

  abbrev file : PathOf × ℕ → File
  file e = (place e.1, (e.0, row_at f e.1))

  abbrev tally : File → Tallied ℕ
  tally k = one k.0 k.1.0

  met_is : (o : Option ℕ) → is_some o ≡ true → o ≡ Some (option_map_or (λ x. x) o 0)
  met_is None h = absurd (cc h)
  met_is (Some n) h = refl

  test_is : (test : ℕ → Bool) (n : ℕ) → is_met places n ≡ true → test (place n) ≡ passes test places n
  test_is test n h = sym (ap (λ o. option_map_or test o false) (met_is (get_or places n None) h))

  counts_are : (test : ℕ → Bool) (es : Numbers) → Met places es → count_by (λ e. passes test places e.1) es ≡ count_where test (map tally (map file es))
  counts_are test [] h = refl
  counts_are test (e ∷ es) h =
      sum_by-cons (λ (x : PathOf × ℕ). one_of (passes test places x.1)) e es
      ∙ (λ i. one_of (sym (test_is test e.1 h.0) i) + counts_are test es h.1 i)

  firsts_are : (test : ℕ → Bool) (es : Numbers) → Met places es → first_in (passes test places) es ≡ first_where test (map tally (map file es))
  firsts_are test [] h = refl
  firsts_are test (e ∷ es) h =
      ap (λ b. option_map (λ (x : PathOf × ℕ). x.0) (cond b (Some e) (find (λ x. passes test places x.1) es))) (sym (test_is test e.1 h.0))
      ∙ by (test (place e.1)) (firsts_are test es h.1)
    where
      by : (b : Bool) → first_in (passes test places) es ≡ first_where test (map tally (map file es))
          → option_map (λ (x : PathOf × ℕ). x.0) (cond b (Some e) (find (λ x. passes test places x.1) es))
          ≡ option_map (λ (t : Tallied ℕ). t.first) (cond b (Some (tally (file e))) (find (λ (t : Tallied ℕ). test t.key) (map tally (map file es))))
      by true more = refl
      by false more = more

  rows_are : (es : Numbers) → map (λ (k : File). k.1) (map file es) ≡ rows_by (row_at f) es
  rows_are [] = refl
  rows_are (e ∷ es) = ap (λ l. (e.0, row_at f e.1) ∷ l) (rows_are es)

  have : (es : Numbers) → Met places es → AllByRecursion (λ (k : File). slice_get (rows_met f numbers) k.0 ≡ Some k.1.1) (map file es)
  have [] h = tt
  have (e ∷ es) h = (met.here e.1 (place e.1) (met_is (get_or places e.1 None) h.0), have es h.1)

  -- all files are counted
  pub are_tallied : (all left : Numbers) (found : List (Tallied ℕ)) → AreMeeting all left places found → Met places all → Met places left
      → AreTallied (slice_get (rows_met f numbers)) (rows_by (row_at f) all) found
  are_tallied all left found w each later = record {
    files = map file all;
    says = record {
      counts = λ test. w.counts test ∙ counts_are test all each;
      firsts = λ test.
          sym (keeps_first all left places found w test left later) ∙ ap (λ o. option_or o (first_in (passes test places) left)) (w.firsts test)
          ∙ sym (first_path_append (λ x. passes test places x.1) w.seen left) ∙ ap (first_in (passes test places)) w.whole ∙ firsts_are test all each;
    };
    are = rows_are all;
    have = have all each;
  }

-- ---- the walk over all files

no_number : (test : ℕ → Bool) (es : Numbers) → 0 ≡ count_by (λ e. passes test [] e.1) es
no_number test [] = refl
no_number test (e ∷ es) =
    let more = no_number test es in
    let here : count_by (λ x. passes test [] x.1) (e ∷ es) ≡ 0 + count_by (λ x. passes test [] x.1) es = sum_by-cons (λ (x : PathOf × ℕ). one_of (passes test [] x.1)) e es in
    omega (arith, more, here)

pub meeting_begins : (all : Numbers) (places : List (Option ℕ)) (found : List (Tallied ℕ)) → places ≡ [] → found ≡ [] → AreMeeting all all places found
meeting_begins all places found none nothing =
    subst (λ ps. AreMeeting all all ps found) (sym none) (subst (AreMeeting all all []) (sym nothing) (record {
      seen = [];
      whole = refl;
      met = tt;
      kept = λ n at is. absurd (none-some at is);
      counts = λ test. no_number test all;
      firsts = λ test. refl;
    }))

pub first_is : (es : Numbers) (e : PathOf × ℕ) → first es ≡ Some e → es ≡ e ∷ drop 1 es
first_is [] e is = absurd (none-some e is)
first_is (x ∷ es) e is = let same : x ≡ e = cc in ap (λ y. y ∷ es) same

module _ (f : FilesLeft) (left : Numbers) where
  abbrev after : FilesLeft
  after = record { rows = f.rows; classes = f.classes; left = left }

  pub met_after : (places : List (Option ℕ)) (numbers : List ℕ) → AreMet f places numbers → AreMet after places numbers
  met_after places numbers met = record { have = met.have; here = met.here }

  -- all numbers are met where no file is left, or each number below the end is met
  pub each_met : (places : List (Option ℕ)) (found : List (Tallied ℕ)) (unmet end : ℕ) → AreAll f → AllByRecursion (λ e. e.1 < end) f.left
      → AreMetBelow after places unmet → AreMeeting f.left left places found → (unmet < end → left ≡ []) → Met places f.left
  each_met places found unmet end all ends below w none = by (nat_lt unmet end) refl
    where
      by : (b : Bool) → nat_lt unmet end ≡ b → Met places f.left
      by true is = subst (Met places) (sym (append-nil w.seen) ∙ ap (λ (l : Numbers). w.seen ++ l) (sym (none (ltb-true unmet end is))) ∙ w.whole) w.met
      by false is = all_met f f.left places unmet end all ends (ltb-false unmet end is) below

  -- those that are left too
  pub left_met : (places : List (Option ℕ)) (found : List (Tallied ℕ)) → AreMeeting f.left left places found → Met places f.left → Met places left
  left_met places found w met = later w.seen (subst (Met places) (sym w.whole) met)
    where
      later : (xs : Numbers) → Met places (xs ++ left) → Met places left
      later [] h = h
      later (x ∷ xs) h = later xs h.1
