-- What a line adds to the counted rows, and the names that were seen.
use Rattle.std.proofs.Common.{◌≡◌, ℕ, ◌<◌, ◌≤◌, Bool, true, false, List, [], ◌∷◌, ◌++◌, length, Option, Some, Ok, Err, refl, sym, ap, subst, ◌∙◌, inl, inr, nat_cmp, Bor}
use Rattle.std.specs.Prelude.{◌||◌, IfSome, option_map}
use Rattle.std.specs.List.{list_any}
use Rattle.std.specs.Str.{bytes_eq}
use Rattle.std.specs.Map.{update}
use Rattle.std.specs.BTreeMap.{get_by}
use Rattle.std.specs.Cmp.Lexicographic.{slice_cmp}
use Rattle.std.proofs.lemmas.Bool.{cases_Bool, or_right, le-leb, lt-leb}
use Rattle.std.proofs.lemmas.List.Folds.{list_any-append}
use Rattle.acl_text.specs.declared.fault.FaultKind.TheVariants.{TooMany}
use Rattle.acl_names.specs.Pieces.{pieces}
use Rattle.acl_text.specs.Rows.{has_no_content, is_repeated, most_rows, one_line}
use Rattle.acl_text.specs.Seen.{SeenNames, SeenNamesAre}

module _ {R : Type 0} (name_of : R → List ℕ) (row_of : List (List ℕ) → Option R) (rows : List R) (line : List ℕ) (row : R)
    (means : has_no_content line ≡ false) (fields : Some row ≡ row_of (pieces 58 line)) where
  pub line_known : is_repeated name_of rows (name_of row) ≡ true → one_line name_of row_of rows line ≡ Ok rows
  line_known known = rw (means, ← fields, known) refl

  pub line_full : is_repeated name_of rows (name_of row) ≡ false → most_rows ≤ length rows → one_line name_of row_of rows line ≡ Err TooMany
  line_full new full = let is = le-leb most_rows (length rows) full in rw (means, ← fields, new, is) refl

  pub line_new : is_repeated name_of rows (name_of row) ≡ false → length rows < most_rows → one_line name_of row_of rows line ≡ Ok (rows ++ row ∷ [])
  line_new new room = let is = lt-leb most_rows (length rows) room in rw (means, ← fields, new, is) refl

pub or_no : (b : Bool) → b ≡ (b || false)
or_no true = refl
or_no false = refl

pub seen_more : {R : Type 0} (name_of : R → List ℕ) (old new : SeenNames) (rows : List R) (row : R) → SeenNamesAre name_of old rows
    → (added : List ℕ) → added ≡ name_of row
    → ((name : List ℕ) → get_by (λ k. slice_cmp nat_cmp name k.now) new ≡ update bytes_eq (λ ds. get_by (λ k. slice_cmp nat_cmp ds k.now) old) added (Some tt) name)
    → SeenNamesAre name_of new (rows ++ row ∷ [])
seen_more name_of old new rows row are added is updates name =
    elim (cases_Bool (bytes_eq added name)) [
      | inl same ↦ rw (updates name, list_any-append, ← is, same) (sym (or_right (list_any (λ r. bytes_eq (name_of r) name) rows) true refl))
      | inr other ↦ rw (updates name, list_any-append, ← is, other) (are name ∙ or_no (list_any (λ r. bytes_eq (name_of r) name) rows))
    ]

-- ---- a row that was found, with its name

module _ {R : Type 0} (found : Option (Bor (List ℕ) × R)) (row : Bor (List ℕ) × R) (is : found ≡ Some row) where
  pub name_found : (name_of : R → List ℕ) → IfSome found (λ f. f.0.now ≡ name_of f.1) → row.0.now ≡ name_of row.1
  name_found name_of named = subst (λ o. IfSome o (λ f. f.0.now ≡ name_of f.1)) is named

  pub row_found : {read : Option R} → option_map (λ f. f.1) found ≡ read → Some row.1 ≡ read
  row_found reads = ap (option_map (λ f. f.1)) (sym is) ∙ reads
