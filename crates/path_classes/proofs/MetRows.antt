-- Rows of numbers that were met.
use Rattle.std.proofs.Common.{◌≡◌, ℕ, zero, suc, List, [], ◌∷◌, ◌++◌, length, Option, Some, sym, ap, subst, ◌∙◌}
use Rattle.std.specs.Prelude.{slice_get}
use Rattle.std.specs.List.{AllByRecursion}
use Rattle.std.proofs.lemmas.List.{length-map, map_push}
use Rattle.std.proofs.lemmas.Option.{none-some}
use Rattle.acl_names.proofs.Basics.{slice_get-last}
use Rattle.path_classes.specs.Classes.{KeepRows}
use Rattle.path_classes.specs.NumberedRows.{FilesLeft, HasRow, row_at, rows_met, AreMet}
use Rattle.path_classes.proofs.FoundWithin.{all_two}

-- items stay where they are when one comes after them
got_before : {A : Type 0} (xs : List A) (y x : A) (at : ℕ) → slice_get xs at ≡ Some x → slice_get (xs ++ y ∷ []) at ≡ Some x
got_before [] y x zero is = absurd (none-some x is)
got_before [] y x (suc at) is = absurd (none-some x is)
got_before (z ∷ xs) y x zero is = is
got_before (z ∷ xs) y x (suc at) is = got_before xs y x at is

module _ (f : FilesLeft) (places : List (Option ℕ)) (numbers : List ℕ) (met : AreMet f places numbers) where
  -- the row of a number comes after those that were met
  module _ (number : ℕ) (has : HasRow f.rows f.classes number) (new : List ℕ) (pushed : new ≡ numbers ++ number ∷ []) where
    rows_pushed : rows_met f new ≡ rows_met f numbers ++ row_at f number ∷ []
    rows_pushed = ap (rows_met f) pushed ∙ map_push (row_at f) numbers number

    pub pushed_keeps : KeepRows (rows_met f numbers) (rows_met f new)
    pushed_keeps class row is = ap (λ rows. slice_get rows class) rows_pushed ∙ got_before (rows_met f numbers) (row_at f number) row class is

    pub pushed_here : (place : ℕ) → place ≡ length numbers → slice_get (rows_met f new) place ≡ Some (row_at f number)
    pushed_here place is =
        ap (λ rows. slice_get rows place) rows_pushed ∙ ap (slice_get (rows_met f numbers ++ row_at f number ∷ [])) (is ∙ sym (length-map numbers (row_at f)))
        ∙ slice_get-last (rows_met f numbers) (row_at f number)

    pub pushed_met : AreMet f places new
    pushed_met = record {
      have = subst (AllByRecursion (HasRow f.rows f.classes)) (sym pushed) (all_two (HasRow f.rows f.classes) numbers (number ∷ []) met.have (has, tt));
      here = λ n at is. pushed_keeps at (row_at f n) (met.here n at is);
    }
