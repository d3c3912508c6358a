-- The fault of a row is the lowest that it has.
use Rattle.std.proofs.Common.{◌≡◌, ℕ, false, leb, List, length, Option, Some, None, Err, refl, sym, ap, ◌∙◌, inl, inr}
use Rattle.std.proofs.lemmas.Bool.{cases_Bool, le-leb, leb-true}
use Rattle.acl_names.specs.Pieces.{pieces}
use Rattle.acl_text.specs.declared.fault.FaultKind.{FaultKind}
use Rattle.acl_text.specs.declared.fault.FaultKind.TheVariants as kinds
use Rattle.acl_text.specs.Rows.{is_repeated, most_rows, counted, has_no_content, one_line}
use Rattle.acl_text.specs.Lowest.{ReportsLowest, RowHas}
use Rattle.acl_text.proofs.Lowest.{alone}

module _ {R : Type 0} (name_of : R → List ℕ) (row_of : List (List ℕ) → Option R) (rows : List R) (line : List ℕ) where
  found : (k : FaultKind) → RowHas name_of row_of rows line k → counted name_of rows (row_of (pieces 58 line)) ≡ Err k
  found k (inl bad) = ap (counted name_of rows) bad.no_row ∙ ap (λ j. Err j) (sym bad.is)
  found k (inr full) =
      let is = le-leb most_rows (length rows) full.full in
      ap (counted name_of rows) full.is_row ∙ rw (full.new, is) (ap (λ j. Err j) (sym full.is))

  applies_to : (k : FaultKind) (o : Option R) → row_of (pieces 58 line) ≡ o → counted name_of rows o ≡ Err k → RowHas name_of row_of rows line k
  applies_to k None is e = let same : kinds.BadRow ≡ k = cc in inl (record { is = sym same; no_row = is })
  applies_to k (Some row) is e =
      elim (cases_Bool (is_repeated name_of rows (name_of row))) [
        | inl repeated ↦ let read_each = rw repeated at e in absurd cc
        | inr new ↦
            let read_each = rw new at e in
            elim (cases_Bool (leb most_rows (length rows))) [
              | inl full ↦ let last = rw full at read_each in let same : kinds.TooMany ≡ k = cc in
                  inr (record { is = sym same; row = row; is_row = is; new = new; full = leb-true most_rows (length rows) full })
              | inr room ↦ let last = rw room at read_each in absurd cc
            ]
      ]

  pub line_lowest : has_no_content line ≡ false → ReportsLowest (RowHas name_of row_of rows line) (one_line name_of row_of rows line)
  line_lowest means =
      rw means (alone (RowHas name_of row_of rows line) (counted name_of rows (row_of (pieces 58 line))) found (λ k e. applies_to k (row_of (pieces 58 line)) refl e))
