-- The rows of files by the numbers of their labels, and along paths by those of their path classes.
use Rattle.std.proofs.Common.{◌≡◌, ◌<◌, ℕ, Bool, true, false, not, cond, ◌&&◌, List, [], ◌∷◌, length, map, filter, Option, Some, None, refl, sym, ap, subst, ◌∙◌}
use Rattle.std.specs.Prelude.{option_map}
use Rattle.std.specs.List.{AllByRecursion}
use Rattle.std.specs.Option.{option_map_or}
use Rattle.std.specs.Ordering.{is_gt}
use Rattle.std.specs.FinMap.{find}
use Rattle.acl_entry.specs.Perms.{Perms}
use Rattle.acl_names.specs.Paths.{path_cmp, PathOf}
use Rattle.path_map.specs.Below.{from}
use Rattle.path_map.specs.Entries.{IsInOrder}
use Rattle.kinds.specs.Kinds.{KindsOf, node_at, count_at}
use Rattle.kinds.specs.Numbered.{Kept, Numbers, AreUsed, with_node, entries_by, entries_in, paths_with}
use Rattle.kinds.proofs.Numbers.{node_within}
use Rattle.path_classes.specs.declared.label_row.LabelRow.{LabelRow}
use Rattle.path_classes.specs.declared.path_class.PathClass.{PathClass}
use Rattle.path_classes.specs.Rows.{Rows, grants, grants_to, may_in}
use Rattle.path_classes.specs.KindRows.{rows_at}
use Rattle.path_classes.specs.ReachedRows.{reached_from, reached_rows, rows_along}
use Rattle.path_classes.specs.Searching.{gets_through}
use Rattle.path_classes.specs.PathClasses.{ClassKinds, kind_at, search_above, IsRight, HasClass, AreClasses}
use Rattle.path_classes.specs.ClassBuilding.{IsRightAt}
use Rattle.path_classes.specs.NumberedRows.{left_from, label_row, row_below, class_row, row_of, HaveRows, rows_by, AreNumbers}
use Rattle.path_classes.proofs.Maps.{find-values, map_twice}
use Rattle.path_classes.proofs.Growing.{some_is}
use Rattle.path_classes.proofs.LeftRows.{reached_left, granted_left}
use Rattle.path_classes.proofs.Reaching.{all_found}
use Rattle.path_classes.proofs.Searched.{in_order_at}
use Rattle.path_classes.proofs.Through.{rows_by_numbers, rows_of_classes, passes_class}

-- ---- a class by its number

module _ (rows : KindsOf LabelRow) (k : ClassKinds) (n : ℕ) where
  pub right_is : IsRightAt rows k n → (class : PathClass) → node_at k n ≡ Some class → IsRight rows k class
  right_is right class is = subst (IsRight rows k) (some_is (node_at k n) right.0 class right.1.0 is) right.1.1

-- ---- all files

module _ (rows : Kept LabelRow) (classes : Kept PathClass) (used : AreUsed rows.0 rows.1) (w : AreClasses rows classes) where
  abbrev all : Rows
  all = rows_at (entries_in rows)

  abbrev Has : PathOf × ℕ → Type 0
  Has e = HasClass rows.0 classes.0 classes.1 e

  right_at : (e : PathOf × ℕ) → Has e → IsRightAt rows.0 classes.0 e.1
  right_at e h = (h.class, (h.is, h.right))

  have_rows : (es : Numbers) → AllByRecursion Has es → HaveRows rows.0 (Some classes.0) es
  have_rows [] h = tt
  have_rows (e ∷ es) h = (right_at e h.0, have_rows es h.1)

  pub right_here : (p : PathOf) (n : ℕ) → find path_cmp p classes.1 ≡ Some n → IsRightAt rows.0 classes.0 n
  right_here p n is = right_at (p, n) (all_found Has p classes.1 n w.each is)

  module _ (order : IsInOrder (entries_in rows)) where
    -- what is reached at the path of a class
    reached_class : (e : PathOf × ℕ) (h : Has e) → reached_from all e.0 0 (label_row rows.0 (kind_at classes.0 e.1)) ≡ class_row rows.0 classes.0 e.1
    reached_class e h =
        reached_left all e.0 (search_above classes.0 h.class.above) (λ user. passes_class rows classes used w (in_order_at (entries_in rows) order) user e h) 0
        (label_row rows.0 (kind_at classes.0 e.1))
        ∙ ap (λ (o : Option PathClass). left_from (search_above classes.0 h.class.above) 0 (label_row rows.0 (option_map_or (λ c. c.kind) o 0))) h.is
        ∙ sym (ap (λ (o : Option PathClass). option_map_or (row_below rows.0 classes.0) o []) h.is)

    reached_each : (es : Numbers) → AllByRecursion Has es
        → map {B = PathOf × List ℕ} (λ (e : PathOf × ℕ). (e.0, reached_from all e.0 0 (label_row rows.0 (kind_at classes.0 e.1)))) es ≡ rows_by (class_row rows.0 classes.0) es
    reached_each [] h = refl
    reached_each (e ∷ es) h = λ i. (e.0, reached_class e h.0 i) ∷ reached_each es h.1 i

    pub reached_by : reached_rows all ≡ rows_by (class_row rows.0 classes.0) classes.1
    reached_by =
        ap (map {B = PathOf × List ℕ} (λ (r : PathOf × List ℕ). (r.0, reached_from all r.0 0 r.1))) (rows_of_classes rows classes used w)
        ∙ map_twice (λ (e : PathOf × ℕ). (e.0, label_row rows.0 (kind_at classes.0 e.1))) (λ (r : PathOf × List ℕ). (r.0, reached_from all r.0 0 r.1)) classes.1
        ∙ reached_each classes.1 w.each

    -- along paths files' rows are found by classes
    pub class_numbers : ((n : ℕ) → count_at classes.0 n ≡ paths_with n classes.1) → AreNumbers true rows (Some classes.0) classes.1
    class_numbers counted = record { have = have_rows classes.1 w.each; are = sym reached_by; counted = counted }

    module _ (p : PathOf) where
      -- what is reached at a path without a file, and at one of a file
      pub row_nowhere : find path_cmp p classes.1 ≡ None → find path_cmp p (reached_rows all) ≡ None
      row_nowhere none =
          ap (find path_cmp p) reached_by ∙ find-values (class_row rows.0 classes.0) p classes.1 ∙ ap (option_map (class_row rows.0 classes.0)) none

      pub row_here : (n : ℕ) → find path_cmp p classes.1 ≡ Some n → find path_cmp p (reached_rows all) ≡ Some (class_row rows.0 classes.0 n)
      row_here n is =
          ap (find path_cmp p) reached_by ∙ find-values (class_row rows.0 classes.0) p classes.1 ∙ ap (option_map (class_row rows.0 classes.0)) is

-- alone files' rows are found by labels
pub label_numbers : (rows : Kept LabelRow) → AreUsed rows.0 rows.1 → ((n : ℕ) → count_at rows.0 n ≡ paths_with n rows.1) → AreNumbers false rows None rows.1
label_numbers rows used counted = record { have = used; are = sym (rows_by_numbers rows.0 rows.1 used); counted = counted }

-- numbers that have nodes are below their end
pub numbers_below : {N : Type 0} (k : KindsOf N) (ns : Numbers) → AreUsed k ns → AllByRecursion (λ e. e.1 < length k.0) ns
numbers_below k [] used = tt
numbers_below k (e ∷ ns) used = (node_within k.0 e.1 used.0.0 used.0.1, numbers_below k ns used.1)

-- ---- files on which a user is granted a request

module _ (rows : KindsOf LabelRow) (k : ClassKinds) (q : Perms) (user : ℕ) where
  abbrev granting : PathClass → Bool
  granting c = grants q user (row_below rows k c)

  pub granted_classes : (ns : Numbers) → AreUsed k ns
      → map {B = PathOf} (λ (e : PathOf × PathClass). e.0) (filter (λ e. granting e.1) (entries_by k ns)) ≡ may_in q user (rows_by (class_row rows k) ns)
  granted_classes [] used = refl
  granted_classes (e ∷ ns) used =
      ap (λ (o : Option PathClass). map {B = PathOf} (λ (e : PathOf × PathClass). e.0) (filter (λ e. granting e.1) (with_node e.0 o (entries_by k ns)))) used.0.1
      ∙ by (granting used.0.0) (granted_classes ns used.1)
      ∙ sym (ap (λ (o : Option PathClass). map {B = PathOf} (λ (r : PathOf × List ℕ). r.0)
      (filter (grants_to q user) ((e.0, option_map_or (row_below rows k) o []) ∷ rows_by (class_row rows k) ns))) used.0.1)
    where
      by : (b : Bool) → map {B = PathOf} (λ (e : PathOf × PathClass). e.0) (filter (λ e. granting e.1) (entries_by k ns)) ≡ may_in q user (rows_by (class_row rows k) ns)
          → map {B = PathOf} (λ (e : PathOf × PathClass). e.0) (cond b ((e.0, used.0.0) ∷ filter (λ e. granting e.1) (entries_by k ns)) (filter (λ e. granting e.1) (entries_by k ns)))
          ≡ map {B = PathOf} (λ (r : PathOf × List ℕ). r.0)
          (cond b ((e.0, row_below rows k used.0.0) ∷ filter (grants_to q user) (rows_by (class_row rows k) ns)) (filter (grants_to q user) (rows_by (class_row rows k) ns)))
      by true more = ap (λ l. e.0 ∷ l) more
      by false more = more

  -- whether the files of a class grant it
  pub granted_here : (class : PathClass) (row : LabelRow) → node_at rows class.kind ≡ Some row
      → grants q user (row_below rows k class) ≡ (grants q user row.row && gets_through (search_above k class.above) user)
  granted_here class row has_row =
      ap (λ (o : Option LabelRow). grants q user (left_from (search_above k class.above) 0 (option_map_or (λ x. x.row) o []))) has_row
      ∙ granted_left (search_above k class.above) q user row.row

-- ---- files that are still to come

-- from a path on
have_from : (rows : KindsOf LabelRow) (classes : Option ClassKinds) (test : PathOf × ℕ → Bool) (ns : Numbers) → HaveRows rows classes ns → HaveRows rows classes (filter test ns)
have_from rows classes test [] have = tt
have_from rows classes test (e ∷ ns) have = by (test e) (have_from rows classes test ns have.1)
  where
    by : (b : Bool) → HaveRows rows classes (filter test ns) → HaveRows rows classes (cond b (e ∷ filter test ns) (filter test ns))
    by true more = (have.0, more)
    by false more = more

rows_from : (row : ℕ → List ℕ) (top : PathOf) (ns : Numbers) → rows_by row (from top ns) ≡ from top (rows_by row ns)
rows_from row top [] = refl
rows_from row top (e ∷ ns) = by (not (is_gt (path_cmp top e.0))) (rows_from row top ns)
  where
    by : (b : Bool) → rows_by row (from top ns) ≡ from top (rows_by row ns)
        → rows_by row (cond b (e ∷ from top ns) (from top ns)) ≡ cond b ((e.0, row e.1) ∷ from top (rows_by row ns)) (from top (rows_by row ns))
    by true more = ap (λ l. (e.0, row e.1) ∷ l) more
    by false more = more

module _ (along : Bool) (rows : Kept LabelRow) (classes : Option ClassKinds) (ns : Numbers) (w : AreNumbers along rows classes ns) (top : PathOf) where
  pub numbers_have : HaveRows rows.0 classes (from top ns)
  numbers_have = have_from rows.0 classes (λ e. not (is_gt (path_cmp top e.0))) ns w.have

  pub numbers_from : rows_by (row_of rows.0 classes) (from top ns) ≡ from top (rows_along along (rows_at (entries_in rows)))
  numbers_from = rows_from (row_of rows.0 classes) top ns ∙ ap (from top) w.are
