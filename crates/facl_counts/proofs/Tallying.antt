-- Counts of files by keys: one more is counted where its key has a count, or anew.
use Rattle.std.proofs.Common.{get_or, subst, ◌<◌, length, ◌≡◌, ℕ, zero, suc, ◌+◌, Bool, true, false, cond, List, [], ◌∷◌, ◌++◌, set, map, Option, Some, None, refl, sym, ap, ◌∙◌, arith}
use Rattle.std.proofs.lemmas.Bool.{eqb-true}
use Rattle.std.specs.Prelude.{option_map, slice_get}
use Rattle.std.proofs.lemmas.List.{map-set, map-append, length-map}
use Rattle.std.proofs.lemmas.Option.{slice_get-map, slice_get_within, slice_get-get_or}
use Rattle.std.specs.Option.{option_or}
use Rattle.std.specs.List.{find}
use Rattle.acl_names.specs.Paths.{PathOf}
use Rattle.facl_counts.specs.Counting.{tallied, HasKey}
use Rattle.facl_answers.specs.Inner.{same_place}
use Rattle.facl_counts.specs.declared.tallies.Tally.{Tally}
use Rattle.facl_answers.specs.BothStates.{Sides}
use Rattle.path_classes.specs.Tallies.{Tallied, SaysAs, count_where, first_where}
use Rattle.path_classes.proofs.Tallies.{count_append, first_append}

pub same_of : (some other : Option ℕ) → same_place some other ≡ true → some ≡ other
same_of None None h = refl
same_of None (Some m) h = absurd (cc h)
same_of (Some n) None h = absurd (cc h)
same_of (Some n) (Some m) h = ap Some (eqb-true n m h)

abbrev Ts : Type 0
Ts = List (Tallied Sides)

pub says_one_more : (xs others : Ts) (x : Tallied Sides) → SaysAs xs others → SaysAs (xs ++ x ∷ []) (others ++ x ∷ [])
says_one_more xs others x says = record {
  counts = λ test. count_append test xs (x ∷ []) ∙ ap (λ n. n + count_where test (x ∷ [])) (says.counts test) ∙ sym (count_append test others (x ∷ []));
  firsts = λ test. first_append test xs (x ∷ []) ∙ ap (λ o. option_or o (first_where test (x ∷ []))) (says.firsts test) ∙ sym (first_append test others (x ∷ []));
}

pub says_both : (xs ys zs : Ts) → SaysAs xs ys → SaysAs ys zs → SaysAs xs zs
says_both xs ys zs some other = record {
  counts = λ test. some.counts test ∙ other.counts test;
  firsts = λ test. some.firsts test ∙ other.firsts test;
}

-- so many more of a key, which has a count
module _ (n : ℕ) (p : PathOf) where
  abbrev more : Tallied Sides → Tallied Sides
  more t = record { key = t.key; count = t.count + n; first = t.first }

  abbrev anew : Tallied Sides → Tallied Sides
  anew t = record { key = t.key; count = n; first = p }

  count_raised : (test : Sides → Bool) (xs : Ts) (at : ℕ) (t : Tallied Sides) → slice_get xs at ≡ Some t → count_where test (set xs at (more t)) ≡ count_where test xs + count_where test (anew t ∷ [])
  count_raised test [] at t here = absurd (cc here)
  count_raised test (x ∷ xs) zero t here =
      let same : x ≡ t = cc in
      by (test t.key) ∙ ap (λ (y : Tallied Sides). (cond (test y.key) y.count 0 + count_where test xs) + count_where test (anew t ∷ [])) (sym same)
    where
      by : (b : Bool) → cond b (t.count + n) 0 + count_where test xs ≡ (cond b t.count 0 + count_where test xs) + (cond b n 0 + 0)
      by true = omega arith
      by false = omega arith
  count_raised test (x ∷ xs) (suc at) t here = let more = count_raised test xs at t here in omega arith

  -- the first of a test is what it was
  first_raised : (test : Sides → Bool) (xs : Ts) (at : ℕ) (t : Tallied Sides) → slice_get xs at ≡ Some t
      → first_where test (set xs at (more t)) ≡ option_or (first_where test xs) (first_where test (anew t ∷ []))
  first_raised test [] at t here = absurd (cc here)
  first_raised test (x ∷ xs) zero t here =
      let same : x ≡ t = cc in
      by (test t.key) (find (λ u. test u.key) xs)
      ∙ ap (λ (y : Tallied Sides). option_or (option_map (λ (u : Tallied Sides). u.first) (cond (test y.key) (Some y) (find (λ u. test u.key) xs))) (first_where test (anew t ∷ []))) (sym same)
    where
      by : (b : Bool) (o : Option (Tallied Sides)) → option_map (λ (u : Tallied Sides). u.first) (cond b (Some (more t)) o)
          ≡ option_or (option_map (λ (u : Tallied Sides). u.first) (cond b (Some t) o)) (option_map (λ (u : Tallied Sides). u.first) (cond b (Some (anew t)) None))
      by true o = refl
      by false None = refl
      by false (Some u) = refl
  first_raised test (x ∷ xs) (suc at) t here = by (test x.key) (first_raised test xs at t here)
    where
      by : (b : Bool) → first_where test (set xs at (more t)) ≡ option_or (first_where test xs) (first_where test (anew t ∷ []))
          → option_map (λ (u : Tallied Sides). u.first) (cond b (Some x) (find (λ u. test u.key) (set xs at (more t))))
          ≡ option_or (option_map (λ (u : Tallied Sides). u.first) (cond b (Some x) (find (λ u. test u.key) xs))) (first_where test (anew t ∷ []))
      by true rest = refl
      by false rest = rest

  pub says_raised : (xs : Ts) (at : ℕ) (t : Tallied Sides) → slice_get xs at ≡ Some t → SaysAs (set xs at (more t)) (xs ++ anew t ∷ [])
  says_raised xs at t here = record {
    counts = λ test. count_raised test xs at t here ∙ sym (count_append test xs (anew t ∷ []));
    firsts = λ test. first_raised test xs at t here ∙ sym (first_append test xs (anew t ∷ []));
  }

-- the count at a place is that of a key where both sides of it are
pub has_key : (ts : List Tally) (at : ℕ) (tally : Tally) (key : Sides) → slice_get ts at ≡ Some tally → same_place tally.key.0 key.0 ≡ true
    → same_place tally.key.1 key.1 ≡ true → HasKey (map tallied ts) at key
has_key ts at tally key here left right = record {
  tally = tallied tally;
  here = slice_get-map tallied ts at ∙ ap (option_map tallied) here;
  same = λ i. (same_of tally.key.0 key.0 left i, same_of tally.key.1 key.1 right i);
}

-- a count more, at the end
pub counted_anew : (old new : List Tally) (x : Tally) (now others : Ts) → now ≡ map tallied old → new ≡ old ++ x ∷ [] → SaysAs now others → SaysAs (map tallied new) (others ++ tallied x ∷ [])
counted_anew old new x now others view is says =
    subst (λ l. SaysAs l (others ++ tallied x ∷ [])) (sym (ap (map tallied) is ∙ map-append tallied old (x ∷ [])))
    (says_one_more (map tallied old) others (tallied x) (subst (λ l. SaysAs l others) view says))

-- the count of a key is raised
pub counted_more : (old : List Tally) (at : ℕ) (d was new : Tally) (n : ℕ) (x : Tallied Sides) (now others : Ts) → now ≡ map tallied old → was ≡ get_or old at d → HasKey now at x.key
    → tallied new ≡ more x.count x.first (tallied was) → SaysAs now others → SaysAs (map tallied (set old at new)) (others ++ x ∷ [])
counted_more old at d was new n x now others view is has raised says =
    subst (λ l. SaysAs l (others ++ x ∷ [])) (sym (map-set tallied old at new ∙ ap (λ t. set (map tallied old) at t) raised))
    (says_both (set (map tallied old) at (more x.count x.first (tallied was))) (map tallied old ++ x ∷ []) (others ++ x ∷ [])
    (subst (λ key. SaysAs (set (map tallied old) at (more x.count x.first (tallied was))) (map tallied old ++ record { key = key; count = x.count; first = x.first } ∷ [])) key
    (says_raised x.count x.first (map tallied old) at (tallied was) here))
    (says_one_more (map tallied old) others x (subst (λ l. SaysAs l others) view says)))
  where
    there : slice_get (map tallied old) at ≡ Some has.tally
    there = ap (λ l. slice_get l at) (sym view) ∙ has.here

    within : at < length old
    within = subst (λ m. at < m) (length-map old tallied) (slice_get_within (map tallied old) at has.tally there)

    here : slice_get (map tallied old) at ≡ Some (tallied was)
    here = slice_get-map tallied old at ∙ ap (option_map tallied) (slice_get-get_or old at d within ∙ ap Some (sym is))

    key : was.key ≡ x.key
    key = (let same : tallied was ≡ has.tally = cc (here, there) in ap (λ (t : Tallied Sides). t.key) same) ∙ has.same
