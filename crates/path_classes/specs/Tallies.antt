-- Counts of files by keys: together those of a key say how many files have it, and the first of them which file is first.
use Rattle.std.specs.Prelude.{◌≡◌, ◌+◌, ℕ, Bool, List, [], ◌∷◌, map, Option, Some, option_map, if◌then◌else◌}
use Rattle.std.specs.List.{AllByRecursion, find}
use Rattle.acl_names.specs.Paths.{PathOf}
use Rattle.path_classes.specs.declared.class_counts.ClassFiles.{ClassFiles}
use Rattle.path_classes.specs.Rows.{Rows}

-- a key, a number of files that have it, and the first of them
pub record Tallied (K : Type 0) : Type 0 where
  pub key : K
  pub count : ℕ
  pub first : PathOf

-- the files of a class
abbrev pub class_tally : ClassFiles → Tallied ℕ
class_tally f = record { key = f.class; count = f.count; first = f.first.now }

-- one file
abbrev pub one : {K : Type 0} → K → PathOf → Tallied K
one key path = record { key = key; count = 1; first = path }

-- how many files have a key that passes a test
abbrev pub count_where : {K : Type 0} → (K → Bool) → List (Tallied K) → ℕ
count_where test [] = 0
count_where test (t ∷ ts) = (if test t.key then t.count else 0) + count_where test ts

-- the first of them
abbrev pub first_where : {K : Type 0} → (K → Bool) → List (Tallied K) → Option PathOf
first_where test ts = option_map (λ t. t.first) (find (λ t. test t.key) ts)

-- some counts say the same as others, whichever keys a test passes
pub record SaysAs {K : Type 0} (some others : List (Tallied K)) : Type 0 where
  pub counts : (test : K → Bool) → count_where test some ≡ count_where test others
  pub firsts : (test : K → Bool) → first_where test some ≡ first_where test others

-- counts say the same as files of these rows, where each file has a key that has its row
pub record AreTallied {K : Type 0} (row_of : K → Option (List ℕ)) (rows : Rows) (ts : List (Tallied K)) : Type 0 where
  pub files : List (K × (PathOf × List ℕ))
  pub says : SaysAs ts (map (λ k. one k.0 k.1.0) files)
  pub are : map (λ k. k.1) files ≡ rows
  pub have : AllByRecursion (λ k. row_of k.0 ≡ Some k.1.1) files
