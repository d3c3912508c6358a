-- A file's row and its users who get through, by the file's class.
use Rattle.std.proofs.Common.{◌≡◌, ℕ, Bool, true, false, List, [], ◌∷◌, cond, Option, Some, None, refl, sym, ap, subst, ◌∙◌}
use Rattle.std.specs.Prelude.{option_map, option_and_then, slice_get}
use Rattle.std.specs.List.{AllByRecursion}
use Rattle.std.specs.Option.{option_map_or}
use Rattle.std.specs.Ordering.{is_eq}
use Rattle.std.specs.FinMap.{find}
use Rattle.acl_names.specs.Paths.{path_cmp, PathOf}
use Rattle.acl_names.proofs.PathOrder.{exact_paths}
use Rattle.acl_names.proofs.Basics.{is_equal}
use Rattle.path_map.specs.Entries.{IsInOrder}
use Rattle.kinds.specs.Kinds.{node_at}
use Rattle.kinds.specs.Numbered.{Kept, AreUsed, entries_in}
use Rattle.kinds.proofs.Counts.{found_entry}
use Rattle.path_classes.specs.declared.label_row.LabelRow.{LabelRow}
use Rattle.path_classes.specs.declared.path_class.PathClass.{PathClass}
use Rattle.path_classes.specs.KindRows.{rows_at}
use Rattle.path_classes.specs.ReachedRows.{passes_in, reached_at}
use Rattle.path_classes.specs.Searching.{gets_through}
use Rattle.path_classes.specs.PathClasses.{search_above, kind_at, HasClass, AreClasses}
use Rattle.path_classes.proofs.Maps.{find-values}
use Rattle.path_classes.proofs.Searched.{in_order_at, cell_of_none, cell_here}
use Rattle.path_classes.proofs.Growing.{some_is}
use Rattle.path_classes.proofs.Through.{passes_class}

-- what holds of each entry holds of one that is found
pub all_found : {A : Type 0} (P : PathOf × A → Type 0) (p : PathOf) (es : List (PathOf × A)) (v : A) → AllByRecursion P es → find path_cmp p es ≡ Some v → P (p, v)
all_found P p [] v all is = cc
all_found {A = A} P p (e ∷ es) v all is = by (is_eq (path_cmp p e.0)) refl is (all_found P p es v all.1)
  where
    by : (b : Bool) → is_eq (path_cmp p e.0) ≡ b → cond b (Some e.1) (find path_cmp p es) ≡ Some v → (find path_cmp p es ≡ Some v → P (p, v)) → P (p, v)
    by true here h more =
        let same : p ≡ e.0 = exact_paths p e.0 (is_equal (path_cmp p e.0) here) in
        let value : e.1 ≡ v = cc in
        subst P (λ i. (sym same i, value i)) all.0
    by false here h more = more h

module _ (rows : Kept LabelRow) (classes : Kept PathClass) (used : AreUsed rows.0 rows.1) (w : AreClasses rows classes) (p : PathOf) where
  labels_of : find path_cmp p rows.1 ≡ option_map (kind_at classes.0) (find path_cmp p classes.1)
  labels_of = ap (find path_cmp p) (sym w.kinds) ∙ find-values (kind_at classes.0) p classes.1

  rows_of : find path_cmp p (entries_in rows) ≡ option_and_then (node_at rows.0) (option_map (kind_at classes.0) (find path_cmp p classes.1))
  rows_of = found_entry rows.0 p rows.1 used ∙ ap (option_and_then (node_at rows.0)) labels_of

  -- a path without a class has no row
  pub none_found : find path_cmp p classes.1 ≡ None → find path_cmp p (entries_in rows) ≡ None
  none_found none = rows_of ∙ ap (λ (o : Option ℕ). option_and_then (node_at rows.0) (option_map (kind_at classes.0) o)) none

  module _ (n : ℕ) (found : find path_cmp p classes.1 ≡ Some n) where
    abbrev has : HasClass rows.0 classes.0 classes.1 (p, n)
    has = all_found (HasClass rows.0 classes.0 classes.1) p classes.1 n w.each found

    module _ (class : PathClass) (is : node_at classes.0 n ≡ Some class) where
      same_class : has.class ≡ class
      same_class = some_is (node_at classes.0 n) has.class class has.is is

      row_found : (row : LabelRow) → node_at rows.0 class.kind ≡ Some row → find path_cmp p (entries_in rows) ≡ Some row
      row_found row row_is =
          rows_of ∙ ap (λ (o : Option ℕ). option_and_then (node_at rows.0) (option_map (kind_at classes.0) o)) found
          ∙ ap (λ (o : Option PathClass). node_at rows.0 (option_map_or (λ c. c.kind) o 0)) is ∙ row_is

      passes_found : IsInOrder (entries_in rows) → (user : ℕ) → gets_through (search_above classes.0 class.above) user ≡ passes_in (rows_at (entries_in rows)) user p
      passes_found order user =
          ap (λ (c : PathClass). gets_through (search_above classes.0 c.above) user) (sym same_class)
          ∙ sym (passes_class rows classes used w (in_order_at (entries_in rows) order) user (p, n) has)

      -- what a user may do with a file: the verdict on its label, if the user gets through the class above
      pub answer_is : IsInOrder (entries_in rows) → (row : LabelRow) → node_at rows.0 class.kind ≡ Some row → (user : ℕ)
          → reached_at (rows_at (entries_in rows)) user p ≡ option_map (λ c. cond (gets_through (search_above classes.0 class.above) user) c 0) (slice_get row.row user)
      answer_is order row row_is user = by (slice_get row.row user) refl
        where
          by : (o : Option ℕ) → slice_get row.row user ≡ o
              → reached_at (rows_at (entries_in rows)) user p ≡ option_map (λ c. cond (gets_through (search_above classes.0 class.above) user) c 0) (slice_get row.row user)
          by None here =
              cell_of_none (entries_in rows) p user row (row_found row row_is) here
              ∙ sym (ap (option_map (λ c. cond (gets_through (search_above classes.0 class.above) user) c 0)) here)
          by (Some c) here =
              cell_here (entries_in rows) p user row c (gets_through (search_above classes.0 class.above) user) (row_found row row_is) here (passes_found order user)
              ∙ sym (ap (option_map (λ c. cond (gets_through (search_above classes.0 class.above) user) c 0)) here)
