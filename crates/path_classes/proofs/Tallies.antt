-- Counts of files by keys, and of files one after another.
use Rattle.std.proofs.Common.{◌≡◌, ◌+◌, Bool, true, false, cond, List, [], ◌∷◌, ◌++◌, Some, refl, arith}
use Rattle.std.specs.Prelude.{option_map}
use Rattle.std.specs.List.{find}
use Rattle.std.specs.Option.{option_or}
use Rattle.acl_names.specs.Paths.{PathOf}
use Rattle.path_classes.specs.Tallies.{Tallied, count_where, first_where}

module _ {K : Type 0} (test : K → Bool) where
  pub count_append : (xs ys : List (Tallied K)) → count_where test (xs ++ ys) ≡ count_where test xs + count_where test ys
  count_append [] ys = omega arith
  count_append (x ∷ xs) ys = let more = count_append xs ys in omega arith

  pub first_append : (xs ys : List (Tallied K)) → first_where test (xs ++ ys) ≡ option_or (first_where test xs) (first_where test ys)
  first_append [] ys = refl
  first_append (x ∷ xs) ys = by (test x.key) (first_append xs ys)
    where
      by : (b : Bool) → first_where test (xs ++ ys) ≡ option_or (first_where test xs) (first_where test ys)
          → option_map (λ (t : Tallied K). t.first) (cond b (Some x) (find (λ t. test t.key) (xs ++ ys)))
          ≡ option_or (option_map (λ (t : Tallied K). t.first) (cond b (Some x) (find (λ t. test t.key) xs))) (first_where test ys)
      by true more = refl
      by false more = more

-- the first of some files, and of others after them
pub first_path_append : {V : Type 0} (test : PathOf × V → Bool) (xs ys : List (PathOf × V))
    → option_map (λ e. e.0) (find test (xs ++ ys)) ≡ option_or (option_map (λ e. e.0) (find test xs)) (option_map (λ e. e.0) (find test ys))
first_path_append test [] ys = refl
first_path_append {V} test (x ∷ xs) ys = by (test x) (first_path_append test xs ys)
  where
    by : (b : Bool) → option_map (λ (e : PathOf × V). e.0) (find test (xs ++ ys))
        ≡ option_or (option_map (λ (e : PathOf × V). e.0) (find test xs)) (option_map (λ (e : PathOf × V). e.0) (find test ys))
        → option_map (λ (e : PathOf × V). e.0) (cond b (Some x) (find test (xs ++ ys)))
        ≡ option_or (option_map (λ (e : PathOf × V). e.0) (cond b (Some x) (find test xs))) (option_map (λ (e : PathOf × V). e.0) (find test ys))
    by true more = refl
    by false more = more
