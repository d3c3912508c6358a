-- The rows of the files of one kind: those of a walk over files and rows are those of the state.
use Rattle.std.proofs.Common.{◌≡◌, ℕ, Bool, true, false, not, cond, List, [], ◌∷◌, map, filter, Option, Some, None, refl, sym, ap, subst, ◌∙◌}
use Rattle.std.specs.Ordering.{is_gt}
use Rattle.acl_names.specs.Below.{encloses}
use Rattle.acl_names.specs.Paths.{path_cmp, PathOf}
use Rattle.acl_edit.specs.declared.node.Kind.{Kind}
use Rattle.acl_edit.specs.declared.node.Node.{Node}
use Rattle.path_map.specs.Below.{from, within}
use Rattle.path_map.specs.Entries.{IsInOrder}
use Rattle.path_map.proofs.Rows.{in_order-filter}
use Rattle.acl_tree.specs.Files.{Files}
use Rattle.acl_tree.specs.State.{State}
use Rattle.path_classes.specs.Rows.{Rows}
use Rattle.path_classes.proofs.Making.{within_root}
use Rattle.acl_rights.specs.Rows.{Verdict}
use Rattle.acl_rights.specs.Verdicts.{rows_granted}
use Rattle.facl_answers.specs.BothStates.{front}
use Rattle.facl_answers.proofs.ChangeLines.{order_by_paths, rows_order, same_paths}
use Rattle.facl_answers.proofs.GrantedFiles.{cells_granted, rows_are}
use Rattle.facl_answers.proofs.PartRows.{front_within}
use Rattle.facl_counts.specs.BelowText.{is_of_kind}
use Rattle.facl_counts.specs.Sums.{rows_of_kind, rows_with}

each_passes : {A : Type 0} (xs : List A) → filter (λ x. true) xs ≡ xs
each_passes [] = refl
each_passes (x ∷ xs) = ap (λ l. x ∷ l) (each_passes xs)

module _ (V : Verdict) (along : Bool) (s : State) where
  abbrev t : Files
  t = s.tree.files

  abbrev row_of : PathOf × Node → PathOf × List ℕ
  row_of e = (e.0, cells_granted V s along e)

  abbrev rows_of : Files → Rows
  rows_of es = map {B = PathOf × List ℕ} row_of es

  -- where no kind is given, all rows
  pub all_rows : rows_granted V along s ≡ rows_of_kind V along s None
  all_rows = rows_are V s along ∙ ap rows_of (sym (each_passes t))

  pub kind_order : (kind : Option Kind) → IsInOrder t → IsInOrder (rows_of_kind V along s kind)
  kind_order kind order =
      let es : Files = filter (λ (e : PathOf × Node). is_of_kind kind e.1) t in
      subst (λ b. b ≡ true) (sym (order_by_paths (rows_of es) es (same_paths (cells_granted V s along) es))) (in_order-filter (λ (e : PathOf × Node). is_of_kind kind e.1) t order)

  -- ---- those at a path or below it

  module _ (top : PathOf) where
    pub rows_from : (es : Files) → from top (rows_of es) ≡ rows_of (from top es)
    rows_from [] = refl
    rows_from (e ∷ es) = by (is_gt (path_cmp top e.0)) (rows_from es)
      where
        by : (b : Bool) → from top (rows_of es) ≡ rows_of (from top es)
            → cond (not b) (row_of e ∷ from top (rows_of es)) (from top (rows_of es)) ≡ rows_of (cond (not b) (e ∷ from top es) (from top es))
        by true more = more
        by false more = ap (λ (l : Rows). row_of e ∷ l) more

    module _ (kind : Option Kind) where
      abbrev these : Files → Files
      these es = filter (λ (e : PathOf × Node). is_of_kind kind e.1) es

      these_within : (es : Files) → within top (rows_of (these es)) ≡ rows_of (these (within top es))
      these_within [] = refl
      these_within (e ∷ es) = by (is_of_kind kind e.1) refl (these_within es)
        where
          in_rows : Rows
          in_rows = within top (rows_of (these es))

          in_files : Files
          in_files = within top es

          kept : (b : Bool) → is_of_kind kind e.1 ≡ true → in_rows ≡ rows_of (these in_files) → cond b (row_of e ∷ in_rows) in_rows ≡ rows_of (these (cond b (e ∷ in_files) in_files))
          kept true is more = ap (λ (l : Rows). row_of e ∷ l) more ∙ sym (ap (λ b. rows_of (cond b (e ∷ these in_files) (these in_files))) is)
          kept false is more = more

          left_out : (b : Bool) → is_of_kind kind e.1 ≡ false → in_rows ≡ rows_of (these in_files) → in_rows ≡ rows_of (these (cond b (e ∷ in_files) in_files))
          left_out true is more = more ∙ sym (ap (λ b. rows_of (cond b (e ∷ these in_files) (these in_files))) is)
          left_out false is more = more

          by : (b : Bool) → is_of_kind kind e.1 ≡ b → in_rows ≡ rows_of (these in_files)
              → within top (rows_of (cond b (e ∷ these es) (these es))) ≡ rows_of (these (cond (encloses top e.0) (e ∷ in_files) in_files))
          by true is more = kept (encloses top e.0) is more
          by false is more = left_out (encloses top e.0) is more

    pub all_within : IsInOrder t → front top (from top (rows_granted V along s)) ≡ within top (rows_of_kind V along s None)
    all_within order = front_within top (rows_granted V along s) (rows_order V along s order) ∙ ap (within top) all_rows

    module _ (kind : Kind) where
      -- a walk over files and their rows
      walked : (es : Files) → rows_with kind es (front top (rows_of es)) ≡ rows_of (these (Some kind) (front top es))
      walked [] = refl
      walked (e ∷ es) = by (encloses top e.0) (walked es)
        where
          one : (b : Bool) → rows_with kind es (front top (rows_of es)) ≡ rows_of (these (Some kind) (front top es))
              → cond b (row_of e ∷ rows_with kind es (front top (rows_of es))) (rows_with kind es (front top (rows_of es)))
              ≡ rows_of (cond b (e ∷ these (Some kind) (front top es)) (these (Some kind) (front top es)))
          one true more = ap (λ (l : Rows). row_of e ∷ l) more
          one false more = more

          by : (b : Bool) → rows_with kind es (front top (rows_of es)) ≡ rows_of (these (Some kind) (front top es))
              → rows_with kind (e ∷ es) (cond b (row_of e ∷ front top (rows_of es)) []) ≡ rows_of (these (Some kind) (cond b (e ∷ front top es) []))
          by true more = one (is_of_kind (Some kind) e.1) more
          by false more = refl

      pub kind_within : IsInOrder t → rows_with kind (from top t) (front top (from top (rows_granted V along s))) ≡ within top (rows_of_kind V along s (Some kind))
      kind_within order =
          ap (λ (rows : Rows). rows_with kind (from top t) (front top (from top rows))) (rows_are V s along)
          ∙ ap (λ (rows : Rows). rows_with kind (from top t) (front top rows)) (rows_from t)
          ∙ walked (from top t)
          ∙ ap (λ (es : Files). rows_of (these (Some kind) es)) (front_within top t order)
          ∙ sym (these_within (Some kind) t)

  -- all files are at the root or below it
  pub all_at_root : (top : PathOf) (kind : Option Kind) → top ≡ [] → kind ≡ None → rows_granted V along s ≡ within top (rows_of_kind V along s kind)
  all_at_root top kind root all =
      all_rows ∙ sym (within_root (rows_of_kind V along s None)) ∙ (λ i. within (sym root i) (rows_of_kind V along s (sym all i)))
