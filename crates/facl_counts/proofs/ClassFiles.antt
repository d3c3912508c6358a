-- Files counted by classes, one after another.
use Rattle.std.proofs.Common.{◌≡◌, ◌+◌, ℕ, Bool, true, false, cond, List, [], ◌∷◌, ◌++◌, append_assoc, append-nil, length, map, Some, None, refl, sym, ap, subst, ◌∙◌, arith}
use Rattle.std.specs.List.{AllByRecursion, find}
use Rattle.std.specs.Prelude.{◌==◌, option_map, slice_get, Option}
use Rattle.std.proofs.lemmas.Bool.{eqb-true}
use Rattle.std.proofs.lemmas.List.{map-append}
use Rattle.acl_names.specs.Below.{encloses}
use Rattle.acl_names.specs.Paths.{PathOf}
use Rattle.acl_names.proofs.Basics.{all_end}
use Rattle.acl_edit.specs.declared.node.Kind.{Kind}
use Rattle.acl_tree.specs.Files.{Files}
use Rattle.path_classes.specs.Classes.{Classed, IsFileTaken, KeepRows, TakesFile}
use Rattle.path_map.specs.Entries.{first}
use Rattle.path_classes.specs.Rows.{Rows}
use Rattle.facl_answers.specs.BothStates.{front}
use Rattle.facl_answers.specs.BothStates.{Sides}
use Rattle.path_classes.specs.Tallies.{Tallied, SaysAs, one, count_where, first_where, AreTallied}
use Rattle.facl_counts.specs.Sums.{row_of, rows_with, of_class, Keyed, one_of, AreCounted, TakesKind, TakesWithin, IsCounting}

all_each : {A : Type 0} (P Q : A → Type 0) (xs : List A) → ((x : A) → P x → Q x) → AllByRecursion P xs → AllByRecursion Q xs
all_each P Q [] each all = tt
all_each P Q (x ∷ xs) each all = (each x all.0, all_each P Q xs each all.1)

-- the files that have rows keep them
still : (old new : List (List ℕ)) (k : Keyed) → KeepRows old new → row_of old k.0 ≡ Some k.1.1 → row_of new k.0 ≡ Some k.1.1
still old new ((before, None), file) keep h = absurd (cc h)
still old new ((before, Some class), file) keep h = keep class file.1 h

kept : (old new : List (List ℕ)) (rows : Rows) (ts : List (Tallied Sides)) → KeepRows old new → AreCounted old rows ts → AreCounted new rows ts
kept old new rows ts keep are = record {
  files = are.files;
  says = are.says;
  are = are.are;
  have = all_each (λ k. row_of old k.0 ≡ Some k.1.1) (λ k. row_of new k.0 ≡ Some k.1.1) are.files (λ k h. still old new k keep h) are.have;
}

-- ---- the next file, if it is at a path or below it

module _ (top : PathOf) (old : Classed) where
  pub none_left : (path : Option PathOf) → path ≡ None → path ≡ option_map (λ (row : PathOf × List ℕ). row.0) (first old.1) → front top old.1 ≡ []
  none_left path none is = by old.1 (sym none ∙ is)
    where
      by : (rows : Rows) → None ≡ option_map (λ (row : PathOf × List ℕ). row.0) (first rows) → front top rows ≡ []
      by [] h = refl
      by (row ∷ rows) h = absurd (cc h)

  pub none_within : (path : Option PathOf) (p : PathOf) → path ≡ Some p → encloses top p ≡ false → path ≡ option_map (λ (row : PathOf × List ℕ). row.0) (first old.1) → front top old.1 ≡ []
  none_within path p some apart is = by old.1 (sym some ∙ is)
    where
      by : (rows : Rows) → Some p ≡ option_map (λ (row : PathOf × List ℕ). row.0) (first rows) → front top rows ≡ []
      by [] h = absurd (cc h)
      by (row ∷ rows) h =
          let same : p ≡ row.0 = cc in
          ap (λ b. cond b (row ∷ front top rows) []) (ap (encloses top) (sym same) ∙ apart)

  pub takes_within : (path : Option PathOf) (p : PathOf) → path ≡ Some p → encloses top p ≡ true → path ≡ option_map (λ (row : PathOf × List ℕ). row.0) (first old.1)
      → (found : Option (PathOf × ℕ)) (new : Classed) → TakesFile old found new → TakesWithin top old found new
  takes_within path p some holds is None new taken = (ap (front top) taken.0, taken.1)
  takes_within path p some holds is (Some file) new taken =
      let same : Some p ≡ Some file.0 = sym some ∙ is ∙ ap (λ (rows : Rows). option_map (λ (row : PathOf × List ℕ). row.0) (first rows)) taken.first in
      let here : p ≡ file.0 = cc in
      (ap (encloses top) (sym here) ∙ holds, taken)

pub counting_begins : (all : Rows) (classes : List (List ℕ)) (ts : List (Tallied Sides)) → ts ≡ [] → IsCounting all all classes ts
counting_begins all classes ts none = record {
  seen = [];
  whole = refl;
  counted = subst (AreCounted classes []) (sym none) (record { files = []; says = record { counts = λ test. refl; firsts = λ test. refl }; are = refl; have = tt });
}

-- the first file that was to come, at a path or below it
pub first_is : (top : PathOf) (old new : Classed) (p : PathOf) (class : ℕ) (here : TakesWithin top old (Some (p, class)) new) → front top old.1 ≡ (p, here.1.row) ∷ front top new.1
first_is top old new p class here =
    let file : PathOf × List ℕ = (p, here.1.row) in
    ap (front top) here.1.first ∙ ap (λ b. cond b (file ∷ front top new.1) []) here.0

-- a file is counted
counted_one : (all left rest : Rows) (old new : Classed) (ts more : List (Tallied Sides)) (p : PathOf) (class : ℕ) (taken : IsFileTaken old (p, class) new) → left ≡ (p, taken.row) ∷ rest
    → IsCounting all left old.0 ts → ((others : List (Tallied Sides)) → SaysAs ts others → SaysAs more (others ++ one (None, Some class) p ∷ [])) → IsCounting all rest new.0 more
counted_one all left rest old new ts more p class taken begins at says = record {
  seen = at.seen ++ file ∷ [];
  whole = append_assoc at.seen (file ∷ []) rest ∙ ap (λ (l : Rows). at.seen ++ l) (sym begins) ∙ at.whole;
  counted = record {
    files = now.files ++ key ∷ [];
    says = subst (SaysAs more) (sym (map-append one_of now.files (key ∷ []))) (says (map one_of now.files) now.says);
    are = map-append (λ (k : Keyed). k.1) now.files (key ∷ []) ∙ ap (λ (l : Rows). l ++ file ∷ []) now.are;
    have = all_end (λ k. row_of new.0 k.0 ≡ Some k.1.1) now.files key now.have taken.has;
  };
}
  where
    file : PathOf × List ℕ
    file = (p, taken.row)

    key : Keyed
    key = ((None, Some class), file)

    now : AreCounted new.0 at.seen ts
    now = kept old.0 new.0 at.seen ts taken.keep at.counted

-- a file is not counted
passed_one : (all left rest : Rows) (old new : List (List ℕ)) (ts more : List (Tallied Sides)) → KeepRows old new → left ≡ rest → IsCounting all left old ts
    → ((others : List (Tallied Sides)) → SaysAs ts others → SaysAs more (others ++ [])) → IsCounting all rest new more
passed_one all left rest old new ts more keep same at says = record {
  seen = at.seen;
  whole = ap (λ (l : Rows). at.seen ++ l) (sym same) ∙ at.whole;
  counted = record {
    files = now.files;
    says = subst (SaysAs more) (append-nil (map one_of now.files)) (says (map one_of now.files) now.says);
    are = now.are;
    have = now.have;
  };
}
  where
    now : AreCounted new at.seen ts
    now = kept old new at.seen ts keep at.counted

pub file_counted : (top : PathOf) (all : Rows) (old new : Classed) (ts more : List (Tallied Sides)) (p : PathOf) (class : ℕ) → TakesWithin top old (Some (p, class)) new
    → IsCounting all (front top old.1) old.0 ts → ((others : List (Tallied Sides)) → SaysAs ts others → SaysAs more (others ++ one (None, Some class) p ∷ []))
    → IsCounting all (front top new.1) new.0 more
file_counted top all old new ts more p class here =
    counted_one all (front top old.1) (front top new.1) old new ts more p class here.1 (first_is top old new p class here)

-- a file is counted if it is of a kind
pub kind_counted : (kind : Kind) (top : PathOf) (all : Rows) (es fs : Files) (old new : Classed) (ts more : List (Tallied Sides)) (p : PathOf) (class : ℕ) (is_of_it : Bool)
    → TakesWithin top old (Some (p, class)) new → TakesKind kind es is_of_it fs → IsCounting all (rows_with kind es (front top old.1)) old.0 ts
    → ((others : List (Tallied Sides)) → SaysAs ts others → SaysAs more (others ++ cond is_of_it (one (None, Some class) p ∷ []) []))
    → IsCounting all (rows_with kind fs (front top new.1)) new.0 more
kind_counted kind top all es fs old new ts more p class is_of_it here takes at =
    by is_of_it (ap (rows_with kind es) (first_is top old new p class here) ∙ takes file (front top new.1))
  where
    file : PathOf × List ℕ
    file = (p, here.1.row)

    rest : Rows
    rest = rows_with kind fs (front top new.1)

    by : (b : Bool) → rows_with kind es (front top old.1) ≡ cond b (file ∷ rest) rest
        → ((others : List (Tallied Sides)) → SaysAs ts others → SaysAs more (others ++ cond b (one (None, Some class) p ∷ []) [])) → IsCounting all rest new.0 more
    by true is says = counted_one all (rows_with kind es (front top old.1)) rest old new ts more p class here.1 is at says
    by false is says = passed_one all (rows_with kind es (front top old.1)) rest old.0 new.0 ts more here.1.keep is at says

pub counting_ends : (all left : Rows) (classes new : List (List ℕ)) (ts : List (Tallied Sides)) → left ≡ [] → new ≡ classes → IsCounting all left classes ts → AreCounted new all ts
counting_ends all left classes new ts none same at =
    subst (λ (c : List (List ℕ)). AreCounted c all ts) (sym same)
    (subst (λ (rows : Rows). AreCounted classes rows ts) (sym (append-nil at.seen) ∙ ap (λ (l : Rows). at.seen ++ l) (sym none) ∙ at.whole) at.counted)

-- no row is left
pub none_with : (kind : Kind) (es : Files) (rows : Rows) → rows ≡ [] → rows_with kind es rows ≡ []
none_with kind [] rows none = refl
none_with kind (e ∷ es) rows none = ap (rows_with kind (e ∷ es)) none

-- ---- all files, counted by classes already

abbrev side : ℕ × (PathOf × List ℕ) → Keyed
side k = ((None, Some k.0), k.1)

module _ (test : Sides → Bool) where
  abbrev on_class : ℕ → Bool
  on_class class = test (None, Some class)

  count_of_classes : (ts : List (Tallied ℕ)) → count_where test (map of_class ts) ≡ count_where on_class ts
  count_of_classes [] = refl
  count_of_classes (t ∷ ts) = ap (λ n. cond (on_class t.key) t.count 0 + n) (count_of_classes ts)

  first_of_classes : (ts : List (Tallied ℕ)) → first_where test (map of_class ts) ≡ first_where on_class ts
  first_of_classes [] = refl
  first_of_classes (t ∷ ts) = by (on_class t.key) (first_of_classes ts)
    where
      by : (b : Bool) → first_where test (map of_class ts) ≡ first_where on_class ts
          → option_map (λ (u : Tallied Sides). u.first) (cond b (Some (of_class t)) (find (λ (u : Tallied Sides). test u.key) (map of_class ts)))
          ≡ option_map (λ (u : Tallied ℕ). u.first) (cond b (Some t) (find (λ (u : Tallied ℕ). on_class u.key) ts))
      by true more = refl
      by false more = more

sides_are : (files : List (ℕ × (PathOf × List ℕ))) → map of_class (map (λ k. one k.0 k.1.0) files) ≡ map one_of (map side files)
sides_are [] = refl
sides_are (k ∷ files) = ap (λ l. one_of (side k) ∷ l) (sides_are files)

files_are : (files : List (ℕ × (PathOf × List ℕ))) → map (λ (k : ℕ × (PathOf × List ℕ)). k.1) files ≡ map (λ (k : Keyed). k.1) (map side files)
files_are [] = refl
files_are (k ∷ files) = ap (λ (l : Rows). k.1 ∷ l) (files_are files)

sides_have : (classes : List (List ℕ)) (files : List (ℕ × (PathOf × List ℕ))) → AllByRecursion (λ k. slice_get classes k.0 ≡ Some k.1.1) files
    → AllByRecursion (λ k. row_of classes k.0 ≡ Some k.1.1) (map side files)
sides_have classes [] have = tt
sides_have classes (k ∷ files) have = (have.0, sides_have classes files have.1)

pub all_counted : (classes : List (List ℕ)) (rows : Rows) (found : List (Tallied ℕ)) (ts : List (Tallied Sides)) → AreTallied (slice_get classes) rows found
    → SaysAs ts (map of_class found) → AreCounted classes rows ts
all_counted classes rows found ts are says = record {
  files = map side are.files;
  says = record {
    counts = λ test.
        says.counts test ∙ count_of_classes test found ∙ are.says.counts (on_class test) ∙ sym (count_of_classes test (map (λ k. one k.0 k.1.0) are.files))
        ∙ ap (count_where test) (sides_are are.files);
    firsts = λ test.
        says.firsts test ∙ first_of_classes test found ∙ are.says.firsts (on_class test) ∙ sym (first_of_classes test (map (λ k. one k.0 k.1.0) are.files))
        ∙ ap (first_where test) (sides_are are.files);
  };
  are = sym (files_are are.files) ∙ are.are;
  have = sides_have classes are.files are.have;
}

-- the root is the path without components
pub root_is : (top : PathOf) → (length top == 0) ≡ true → top ≡ []
root_is [] is = refl
root_is (name ∷ top) is = let none : length (name ∷ top) ≡ 0 = eqb-true (length (name ∷ top)) 0 is in absurd (omega (arith, none))
