-- The rows that count, defined on a whole text.
use Rattle.std.specs.Prelude.{◌≡◌, ℕ, ◌≤◌, List, take, map, filter, length, not, Option, Some}
use Rattle.std.specs.List.{enumerate_from}
use Rattle.acl_names.specs.Pieces.{pieces}
use Rattle.acl_text.specs.Rows.{has_no_content, is_repeated, most_rows}

-- the lines that are not ignored
abbrev pub lines_with_content : List ℕ → List (List ℕ)
lines_with_content bytes = filter (λ line. not (has_no_content line)) (pieces 10 bytes)

-- the rows whose name no earlier row has, in their order
abbrev pub firsts : {R : Type 0} → (R → List ℕ) → List R → List R
firsts name_of rows = map (λ p. p.1) (filter (λ p. not (is_repeated name_of (take p.0 rows) (name_of p.1))) (enumerate_from 0 rows))

-- each line that is not ignored is a row, of each name the first row counts, and at most `most_rows` do
pub record AreCounted {R : Type 0} (name_of : R → List ℕ) (row_of : List (List ℕ) → Option R) (bytes : List ℕ) (counted : List R) : Type 0 where
  pub rows : List R
  pub well_formed : map (λ line. row_of (pieces 58 line)) (lines_with_content bytes) ≡ map (λ row. Some row) rows
  pub first : counted ≡ firsts name_of rows
  pub few : length counted ≤ most_rows
