-- What the directories above a path leave of a row: those of the nearest, and of the ones above it.
use Rattle.std.proofs.Common.{◌≡◌, ℕ, zero, suc, ◌+◌, ◌&&◌, ◌||◌, not, Bool, true, false, cond, List, [], ◌∷◌, map, Option, Some, None, refl, sym, ap, ◌∙◌, arith}
use Rattle.std.specs.Prelude.{slice_get, option_map, option_and_then}
use Rattle.std.specs.List.{list_all}
use Rattle.std.specs.Ordering.{is_eq}
use Rattle.std.specs.FinMap.{find}
use Rattle.std.proofs.lemmas.List.Folds.{list_all-append}
use Rattle.acl_names.specs.Paths.{path_cmp, PathOf}
use Rattle.acl_names.specs.Below.{is_above}
use Rattle.acl_names.proofs.PathOrder.{exact_paths}
use Rattle.acl_names.proofs.Basics.{and_true, is_equal}
use Rattle.path_map.specs.Entries.{IsInOrder}
use Rattle.path_map.specs.Below.{nearest_above}
use Rattle.path_map.proofs.AllAbove.{those, nearest_empty, nearest_last}
use Rattle.path_map.proofs.Rows.{sorted_rows}
use Rattle.path_classes.specs.Rows.{Rows}
use Rattle.path_classes.specs.ReachedRows.{can_search, passes_in, reach_cell, reached_from, reached_rows, reached_at}
use Rattle.path_classes.specs.KindRows.{RowedPaths, rows_at}
use Rattle.path_classes.specs.declared.label_row.LabelRow.{LabelRow}

-- ---- whether all rows above let a user search

passes_those : (rows : Rows) (u : ℕ) (p : PathOf) → passes_in rows u p ≡ list_all (λ r. can_search u r.1) (those p rows)
passes_those [] u p = refl
passes_those (r ∷ rows) u p = ap (λ b. (not (is_above r.0 p) || can_search u r.1) && b) (passes_those rows u p) ∙ by (is_above r.0 p)
  where
    by : (b : Bool) → ((not b || can_search u r.1) && list_all (λ r. can_search u r.1) (those p rows)) ≡ list_all (λ r. can_search u r.1) (cond b (r ∷ those p rows) (those p rows))
    by true = refl
    by false = refl

-- where none is above, all do
pub passes_none : (rows : Rows) (u : ℕ) (p : PathOf) → nearest_above p rows ≡ None → passes_in rows u p ≡ true
passes_none rows u p none = passes_those rows u p ∙ ap (list_all (λ r. can_search u r.1)) (nearest_empty p rows none)

-- else those above the nearest, and the nearest
pub passes_some : (rows : Rows) (u : ℕ) (p : PathOf) (r : PathOf × List ℕ) → IsInOrder rows → nearest_above p rows ≡ Some r → passes_in rows u p ≡ (passes_in rows u r.0 && can_search u r.1)
passes_some rows u p r order is =
    passes_those rows u p
    ∙ ap (list_all (λ r. can_search u r.1)) (nearest_last p rows r order is)
    ∙ list_all-append (λ r. can_search u r.1) (those r.0 rows) (r ∷ [])
    ∙ (λ i. sym (passes_those rows u r.0) i && and_true (can_search u r.1) i)

-- ---- rows of paths

pub in_order_at : (es : RowedPaths) → IsInOrder es → IsInOrder (rows_at es)
in_order_at es order = sorted_rows (λ (n : LabelRow). n.row) es ∙ order

pub find_row : (p : PathOf) (es : RowedPaths) → find path_cmp p (rows_at es) ≡ option_map (λ n. n.row) (find path_cmp p es)
find_row p [] = refl
find_row p (e ∷ es) = ap (cond (is_eq (path_cmp p e.0)) (Some e.1.row)) (find_row p es) ∙ by (is_eq (path_cmp p e.0))
  where
    by : (b : Bool) → cond b (Some e.1.row) (option_map (λ n. n.row) (find path_cmp p es)) ≡ option_map (λ n. n.row) (cond b (Some e.1) (find path_cmp p es))
    by true = refl
    by false = refl

-- ---- what is reached at a path

pub find_reached : (p : PathOf) (rows : Rows) → find path_cmp p (reached_rows rows) ≡ option_map (reached_from rows p 0) (find path_cmp p rows)
find_reached p rows = go rows
  where
    go : (rest : Rows) → find path_cmp p (map (λ r. (r.0, reached_from rows r.0 0 r.1)) rest) ≡ option_map (reached_from rows p 0) (find path_cmp p rest)
    go [] = refl
    go (r ∷ rest) = by (is_eq (path_cmp p r.0)) refl (go rest)
      where
        by : (b : Bool) → is_eq (path_cmp p r.0) ≡ b → find path_cmp p (map (λ r. (r.0, reached_from rows r.0 0 r.1)) rest) ≡ option_map (reached_from rows p 0) (find path_cmp p rest)
            → cond b (Some (reached_from rows r.0 0 r.1)) (find path_cmp p (map (λ r. (r.0, reached_from rows r.0 0 r.1)) rest))
            ≡ option_map (reached_from rows p 0) (cond b (Some r.1) (find path_cmp p rest))
        by true is more = ap (λ q. Some (reached_from rows q 0 r.1)) (sym (exact_paths p r.0 (is_equal (path_cmp p r.0) is)))
        by false is more = more

reached_get : (rows : Rows) (p : PathOf) (n u : ℕ) (row : List ℕ) → slice_get (reached_from rows p n row) u ≡ option_map (λ c. reach_cell rows (u + n) p c) (slice_get row u)
reached_get rows p n u [] = refl
reached_get rows p n zero (c ∷ row) = ap (λ k. Some (reach_cell rows k p c)) (omega arith)
reached_get rows p n (suc u) (c ∷ row) = reached_get rows p (suc n) u row ∙ ap (λ k. option_map (λ c. reach_cell rows k p c) (slice_get row u)) (omega arith)

module _ (es : RowedPaths) (p : PathOf) where
  row_at : (o : Option LabelRow) → find path_cmp p es ≡ o → find path_cmp p (reached_rows (rows_at es)) ≡ option_map (λ n. reached_from (rows_at es) p 0 n.row) o
  row_at o is = find_reached p (rows_at es) ∙ ap (option_map (reached_from (rows_at es) p 0)) (find_row p es ∙ ap (option_map (λ n. n.row)) is) ∙ by o
    where
      by : (o : Option LabelRow) → option_map (reached_from (rows_at es) p 0) (option_map (λ n. n.row) o) ≡ option_map (λ n. reached_from (rows_at es) p 0 n.row) o
      by None = refl
      by (Some n) = refl

  -- what is reached at a path without a file, and at one of a file
  pub row_nowhere : find path_cmp p es ≡ None → find path_cmp p (reached_rows (rows_at es)) ≡ None
  row_nowhere none = row_at None none

  pub row_here : (n : LabelRow) → find path_cmp p es ≡ Some n → find path_cmp p (reached_rows (rows_at es)) ≡ Some (reached_from (rows_at es) p 0 n.row)
  row_here n is = row_at (Some n) is

  pub cell_nowhere : (u : ℕ) → find path_cmp p es ≡ None → reached_at (rows_at es) u p ≡ None
  cell_nowhere u none = ap (option_and_then (λ row. slice_get row u)) (row_nowhere none)

  cell_at : (u : ℕ) (n : LabelRow) → find path_cmp p es ≡ Some n → reached_at (rows_at es) u p ≡ option_map (λ c. reach_cell (rows_at es) u p c) (slice_get n.row u)
  cell_at u n is =
      ap (option_and_then (λ row. slice_get row u)) (row_here n is)
      ∙ reached_get (rows_at es) p 0 u n.row
      ∙ ap (λ k. option_map (λ c. reach_cell (rows_at es) k p c) (slice_get n.row u)) (omega arith)

  pub cell_of_none : (u : ℕ) (n : LabelRow) → find path_cmp p es ≡ Some n → slice_get n.row u ≡ None → reached_at (rows_at es) u p ≡ None
  cell_of_none u n is none = cell_at u n is ∙ ap (option_map (λ c. reach_cell (rows_at es) u p c)) none

  pub cell_here : (u : ℕ) (n : LabelRow) (c : ℕ) (passes : Bool) → find path_cmp p es ≡ Some n → slice_get n.row u ≡ Some c
      → passes ≡ passes_in (rows_at es) u p → reached_at (rows_at es) u p ≡ Some (cond passes c 0)
  cell_here u n c passes is has lets_through = cell_at u n is ∙ ap (option_map (λ c. reach_cell (rows_at es) u p c)) has ∙ ap (λ b. Some (cond b c 0)) (sym lets_through)
