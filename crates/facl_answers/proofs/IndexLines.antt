-- The lines of all files, by the verdicts on all users.
use Rattle.std.proofs.Common.{◌≡◌, ℕ, zero, suc, ◌+◌, ◌<◌, ◌++◌, arith, false, length, take, List, [], ◌∷◌, map, Some, None, refl, ap, ◌∙◌}
use Rattle.std.specs.Prelude.{slice_get}
use Rattle.std.specs.List.{flat_map}
use Rattle.acl_names.specs.Names.{escaped}
use Rattle.acl_text.specs.declared.rows.PasswdRow.{PasswdRow}
use Rattle.acl_tree.specs.Found.{FoundFile}
use Rattle.acl_tree.specs.State.{State}
use Rattle.acl_rights.specs.Rows.{Verdict}
use Rattle.acl_rights.specs.Verdicts.{granted}
use Rattle.facl_output.specs.Listings.{path_shown}
use Rattle.facl_answers.specs.Answers.{all_files, verdict_line, index_text}
use Rattle.facl_answers.specs.Inner.{RowedFile, files_granted, row_lines, row_text}

-- one more of some rows
pub one_more : {A B : Type 0} (f : A → B) (xs : List A) (i : ℕ) (x : A) → slice_get xs i ≡ Some x → map f (take (i + 1) xs) ≡ map f (take i xs) ++ f x ∷ []
one_more f [] i x h = absurd (cc h)
one_more f (y ∷ xs) zero x h = let same : y ≡ x = cc in ap (λ z. f z ∷ []) same
one_more f (y ∷ xs) (suc i) x h = let on : suc i + 1 ≡ suc (i + 1) = omega arith in ap (λ k. map f (take k (y ∷ xs))) on ∙ ap (λ l. f y ∷ l) (one_more f xs i x h)

-- there is a row at each place
pub is_there : {A : Type 0} (xs : List A) (i : ℕ) → slice_get xs i ≡ None → i < length xs → ⊥
is_there [] i h lt = omega arith
is_there (x ∷ xs) zero h lt = cc h
is_there (x ∷ xs) (suc i) h lt = is_there xs i h (omega arith)

module _ (V : Verdict) (s : State) where
  abbrev written : List (List ℕ)
  written = map (λ row. escaped row.name) s.people.users

  -- the lines of a file, user by user
  abbrev file_lines : FoundFile → List ℕ
  file_lines file = flat_map (λ row. verdict_line (granted V false s row (file.path, file.node)) (escaped row.name) (path_shown file)) s.people.users

  each_user : (path : List ℕ) (verdict : PasswdRow → ℕ) (rows : List PasswdRow)
      → row_lines path (map (λ row. escaped row.name) rows) (map verdict rows) ≡ flat_map (λ row. verdict_line (verdict row) (escaped row.name) path) rows
  each_user path verdict [] = refl
  each_user path verdict (row ∷ rows) = ap (λ l. verdict_line (verdict row) (escaped row.name) path ++ l) (each_user path verdict rows)

  each_file : (files : List FoundFile)
      → flat_map (row_text written) (map {B = RowedFile} (λ file. (file, map (λ row. granted V false s row (file.path, file.node)) s.people.users)) files) ≡ flat_map file_lines files
  each_file [] = refl
  each_file (file ∷ files) = λ i. each_user (path_shown file) (λ row. granted V false s row (file.path, file.node)) s.people.users i ++ each_file files i

  -- the lines of all files
  pub index_lines : flat_map (row_text written) (files_granted V false s) ≡ index_text V s
  index_lines = each_file (all_files s)
