-- The sums of users out of counts by classes are those out of all files.
use Rattle.std.proofs.Common.{◌≡◌, ℕ, zero, suc, ◌+◌, Bool, true, false, cond, List, [], ◌∷◌, ◌++◌, map, Option, Some, None, refl, sym}
use Rattle.std.proofs.Common.{ap, ◌∙◌, arith}
use Rattle.std.specs.Prelude.{option_map, slice_get, count_by}
use Rattle.std.specs.Option.{option_map_or, option_or}
use Rattle.std.specs.List.{AllByRecursion, find}
use Rattle.std.proofs.lemmas.Option.{slice_get-map}
use Rattle.std.proofs.lemmas.List.Sums.{sum_by-cons}
use Rattle.acl_entry.specs.Perms.{Perms}
use Rattle.acl_names.specs.Paths.{PathOf}
use Rattle.facl_answers.specs.BothStates.{Sides}
use Rattle.path_classes.specs.Tallies.{Tallied, count_where, first_where}
use Rattle.path_classes.specs.Rows.{Rows, grants, grants_to}
use Rattle.path_classes.proofs.Tallies.{first_path_append}
use Rattle.facl_counts.specs.Sums.{Sum, no_sum, added, after_row, row_of, after_tally, after_tallies, Keyed, one_of, AreCounted, sum_in, AreSums}

-- counts of two lists
count_two : {A : Type 0} (test : A → Bool) (xs ys : List A) → count_by test (xs ++ ys) ≡ count_by test xs + count_by test ys
count_two test [] ys = omega arith
count_two test (x ∷ xs) ys =
    let more = count_two test xs ys in
    let here = sum_by-cons (λ r. cond (test r) 1 0) x (xs ++ ys) in
    let there = sum_by-cons (λ r. cond (test r) 1 0) x xs in
    omega (arith, more, here, there)

module _ (q : Perms) (user : ℕ) where
  at_row : (t : Tallied Sides) (row : List ℕ) (sums : List Sum) (u : ℕ) → slice_get (after_row q t row sums) u ≡ option_map (λ s. cond (grants q u row) (added t s) s) (slice_get sums u)
  at_row t row [] u = refl
  at_row t [] (s ∷ sums) u = same (slice_get (s ∷ sums) u)
    where
      same : (o : Option Sum) → o ≡ option_map (λ s. s) o
      same None = refl
      same (Some x) = refl
  at_row t (c ∷ row) (s ∷ sums) zero = refl
  at_row t (c ∷ row) (s ∷ sums) (suc u) = at_row t row sums u

  module _ (classes : List (List ℕ)) where
    -- whether the row of a key grants the user the request
    abbrev test : Sides → Bool
    test key = option_map_or (grants q user) (row_of classes key) false

    at_tally : (t : Tallied Sides) (sums : List Sum) → slice_get (after_tally classes q t sums) user ≡ option_map (λ s. cond (test t.key) (added t s) s) (slice_get sums user)
    at_tally t sums = by (row_of classes t.key)
      where
        same : (o : Option Sum) → o ≡ option_map (λ s. s) o
        same None = refl
        same (Some x) = refl

        by : (o : Option (List ℕ)) → slice_get (option_map_or (λ row. after_row q t row sums) o sums) user
            ≡ option_map (λ s. cond (option_map_or (grants q user) o false) (added t s) s) (slice_get sums user)
        by None = same (slice_get sums user)
        by (Some row) = at_row t row sums user

    abbrev summed : List (Tallied Sides) → Sum → Sum
    summed ts s = (s.0 + count_where test ts, option_or s.1 (first_where test ts))

    at_tallies : (ts : List (Tallied Sides)) (sums : List Sum) → slice_get (after_tallies classes q ts sums) user ≡ option_map (summed ts) (slice_get sums user)
    at_tallies [] sums = by (slice_get sums user)
      where
        none : (o : Option PathOf) → o ≡ option_or o None
        none None = refl
        none (Some p) = refl

        by : (o : Option Sum) → o ≡ option_map (summed []) o
        by None = refl
        by (Some s) = let same : s.0 ≡ s.0 + 0 = omega arith in λ i. Some (same i, none s.1 i)
    at_tallies (t ∷ ts) sums = at_tallies ts (after_tally classes q t sums) ∙ ap (option_map (summed ts)) (at_tally t sums) ∙ by (slice_get sums user)
      where
        first : (b : Bool) (o p : Option PathOf) → option_or (cond b (option_or o (Some t.first)) o) p ≡ option_or o (cond b (Some t.first) p)
        first true None p = refl
        first true (Some x) p = refl
        first false o p = refl

        one : (b : Bool) (s : Sum) → summed ts (cond b (added t s) s) ≡ (
          s.0 + (cond b t.count 0 + count_where test ts),
          option_or s.1
              (option_map (λ (u : Tallied Sides). u.first) (cond b (Some t) (find (λ u. test u.key) ts))),
        )
        one true s =
            let n : (s.0 + t.count) + count_where test ts ≡ s.0 + (t.count + count_where test ts) = omega arith in
            λ i. (n i, first true s.1 (first_where test ts) i)
        one false s = let n : s.0 + count_where test ts ≡ s.0 + (0 + count_where test ts) = omega arith in λ i. (n i, option_or s.1 (first_where test ts))

        by : (o : Option Sum) → option_map (summed ts) (option_map (λ s. cond (test t.key) (added t s) s) o) ≡ option_map (summed (t ∷ ts)) o
        by None = refl
        by (Some s) = ap Some (one (test t.key) s)

    row_grants : (k : Keyed) → row_of classes k.0 ≡ Some k.1.1 → test k.0 ≡ grants_to q user k.1
    row_grants k is = ap (λ o. option_map_or (grants q user) o false) is

    -- counts of files one by one
    counts_are : (files : List Keyed) → AllByRecursion (λ k. row_of classes k.0 ≡ Some k.1.1) files → count_where test (map one_of files) ≡ count_by (grants_to q user) (map (λ k. k.1) files)
    counts_are [] have = refl
    counts_are (k ∷ files) have =
        (λ i. cond (row_grants k have.0 i) 1 0 + counts_are files have.1 i)
        ∙ sym (sum_by-cons (λ r. cond (grants_to q user r) 1 0) k.1 (map (λ k. k.1) files))

    firsts_are : (files : List Keyed) → AllByRecursion (λ k. row_of classes k.0 ≡ Some k.1.1) files → first_where test (map one_of files)
        ≡ option_map (λ (r : PathOf × List ℕ). r.0) (find (grants_to q user) (map (λ k. k.1) files))
    firsts_are [] have = refl
    firsts_are (k ∷ files) have =
        ap (λ b. option_map (λ (t : Tallied Sides). t.first) (cond b (Some (one_of k)) (find (λ t. test t.key) (map one_of files)))) (row_grants k have.0)
        ∙ by (grants_to q user k.1) (firsts_are files have.1)
      where
        by : (b : Bool) → first_where test (map one_of files) ≡ option_map (λ (r : PathOf × List ℕ). r.0) (find (grants_to q user) (map (λ k. k.1) files))
            → option_map (λ (t : Tallied Sides). t.first) (cond b (Some (one_of k)) (find (λ t. test t.key) (map one_of files)))
            ≡ option_map (λ (r : PathOf × List ℕ). r.0) (cond b (Some k.1) (find (grants_to q user) (map (λ k. k.1) files)))
        by true more = refl
        by false more = more

-- the sums of users on files, and on others after them
module _ {A : Type 0} (q : Perms) (users : List A) where
  pub no_sums_are : (sums : List Sum) → sums ≡ map no_sum users → AreSums q [] users sums
  no_sums_are sums are user = ap (λ l. slice_get l user) are ∙ slice_get-map no_sum users user

  pub sums_more : (classes : List (List ℕ)) (seen rows : Rows) (ts : List (Tallied Sides)) (sums : List Sum) → AreCounted classes rows ts → AreSums q seen users sums
      → AreSums q (seen ++ rows) users (after_tallies classes q ts sums)
  sums_more classes seen rows ts sums are were user =
      at_tallies q user classes ts sums ∙ ap (option_map (summed q user classes ts)) (were user) ∙ by (slice_get users user)
    where
      sum : summed q user classes ts (sum_in q user seen) ≡ sum_in q user (seen ++ rows)
      sum =
          let count = are.says.counts (test q user classes) ∙ counts_are q user classes are.files are.have ∙ ap (count_by (grants_to q user)) are.are in
          let first = are.says.firsts (test q user classes) ∙ firsts_are q user classes are.files are.have
          ∙ ap (λ (rs : Rows). option_map (λ (r : PathOf × List ℕ). r.0) (find (grants_to q user) rs)) are.are in
          let counts = ap (λ n. count_by (grants_to q user) seen + n) count ∙ sym (count_two (grants_to q user) seen rows) in
          let firsts = ap (option_or (option_map (λ (r : PathOf × List ℕ). r.0) (find (grants_to q user) seen))) first ∙ sym (first_path_append (grants_to q user) seen rows) in
          λ i. (counts i, firsts i)

      by : (o : Option A) → option_map (summed q user classes ts) (option_map (λ _. sum_in q user seen) o) ≡ option_map (λ _. sum_in q user (seen ++ rows)) o
      by None = refl
      by (Some a) = ap Some sum
