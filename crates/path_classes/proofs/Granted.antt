-- Paths whose rows grant a user a request.
use Rattle.std.proofs.Common.{◌≡◌, ℕ, Bool, true, false, cond, [], ◌∷◌, map, refl, ap}
use Rattle.std.specs.Prelude.{filter}
use Rattle.acl_entry.specs.Perms.{Perms}
use Rattle.acl_names.specs.Paths.{PathOf}
use Rattle.path_classes.specs.KindRows.{RowedPaths, rows_at}
use Rattle.path_classes.specs.Rows.{Rows, grants, may_in}
use Rattle.path_classes.specs.declared.label_row.LabelRow.{LabelRow}

module _ (q : Perms) (user : ℕ) where
  -- a label's row is the row of its path
  pub may_rows : (es : RowedPaths) → map (λ (e : PathOf × LabelRow). e.0) (filter (λ (e : PathOf × LabelRow). grants q user e.1.row) es) ≡ may_in q user (rows_at es)
  may_rows [] = refl
  may_rows (e ∷ es) = by (grants q user e.1.row) (may_rows es)
    where
      rest : RowedPaths
      rest = filter (λ (x : PathOf × LabelRow). grants q user x.1.row) es

      left : Rows
      left = filter (λ row. grants q user row.1) (rows_at es)

      by : (b : Bool) → map (λ (x : PathOf × LabelRow). x.0) rest ≡ map (λ row. row.0) left
          → map (λ (x : PathOf × LabelRow). x.0) (cond b (e ∷ rest) rest) ≡ map (λ row. row.0) (cond b ((e.0, e.1.row) ∷ left) left)
      by true h = ap (λ l. e.0 ∷ l) h
      by false h = h
