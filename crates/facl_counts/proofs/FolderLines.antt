-- The lines of a folder, out of the sums of all users.
use Rattle.std.proofs.Common.{◌≡◌, ◌<◌, ◌≤◌, ℕ, zero, suc, ◌+◌, get_or, Bool, true, List, [], ◌∷◌, ◌++◌, append_assoc, append-nil, filter, length, map, zip}
use Rattle.std.proofs.Common.{Option, Some, None, refl, sym, ap, ◌∙◌, arith}
use Rattle.std.specs.Prelude.{decimal, option_to_list, slice_get}
use Rattle.std.specs.List.{flat_map}
use Rattle.std.proofs.lemmas.List.{length-map}
use Rattle.std.proofs.lemmas.Option.{slice_get_past, slice_get-get_or}
use Rattle.acl_entry.specs.Perms.{Perms}
use Rattle.acl_names.specs.Names.{escaped}
use Rattle.acl_text.specs.declared.rows.PasswdRow.{PasswdRow}
use Rattle.acl_edit.specs.declared.node.Kind.{Kind}
use Rattle.acl_tree.specs.Found.{FoundFile}
use Rattle.acl_tree.specs.Operands.{is_file}
use Rattle.acl_tree.specs.State.{State}
use Rattle.acl_rights.specs.Rows.{Verdict}
use Rattle.facl_answers.specs.Answers.{file_line}
use Rattle.facl_counts.specs.BelowText.{folder_line, folder_lines, granted_below}
use Rattle.facl_counts.specs.CountTexts.{count_text}
use Rattle.facl_counts.specs.Sums.{Sum, folder_sum, folder_sum_at, folder_sums, rows_of_kind, AreSums}
use Rattle.facl_counts.proofs.BelowLines.{all_sums, each_line, name_at, sum_of_files}

-- the line of one user
line_is : (folder : FoundFile) (name : List ℕ) (files : List FoundFile) → folder_sum folder name (sum_of_files files) ≡ folder_line folder name files
line_is folder name [] = refl
line_is folder name (file ∷ files) =
    let more : suc (length files) ≡ 1 + length files = omega arith in
    ap (λ n. count_text n name ++ file_line folder) more
    ∙ append_assoc (decimal (1 + length files) ++ 32 ∷ []) (name ++ 32 ∷ []) (file_line folder)
    ∙ append_assoc (decimal (1 + length files)) (32 ∷ []) ((name ++ 32 ∷ []) ++ file_line folder)
    ∙ ap (λ (l : List ℕ). decimal (1 + length files) ++ (32 ∷ l)) (append_assoc name (32 ∷ []) (file_line folder))

lines_are : {A : Type 0} (folder : FoundFile) (name : A → List ℕ) (files : A → List FoundFile) (xs : List A)
    → flat_map (λ x. folder_sum folder (name x) (sum_of_files (files x))) xs ≡ flat_map (λ x. folder_line folder (name x) (files x)) xs
lines_are folder name files [] = refl
lines_are folder name files (x ∷ xs) = λ i. line_is folder (name x) (files x) i ++ lines_are folder name files xs i

-- the line of the user at a place
at_place : {A : Type 0} (folder : FoundFile) (name : A → List ℕ) (files : A → List FoundFile) (xs : List A) (user : ℕ)
    → flat_map (λ (x : List ℕ × Sum). folder_sum folder x.0 x.1) (option_to_list (slice_get (zip (map name xs) (map (λ x. sum_of_files (files x)) xs)) user))
    ≡ flat_map (λ x. folder_line folder (name x) (files x)) (option_to_list (slice_get xs user))
at_place folder name files [] user = refl
at_place folder name files (x ∷ xs) zero = ap (λ (l : List ℕ). l ++ []) (line_is folder (name x) (files x))
at_place folder name files (x ∷ xs) (suc user) = at_place folder name files xs user

-- ---- the line of the user at a place of sums and of names

nothing_added : (text : List ℕ) → text ≡ text ++ []
nothing_added text = sym (append-nil text)

zip_none_left : {A B : Type 0} (xs : List A) (ys : List B) (n : ℕ) → slice_get xs n ≡ None → slice_get (zip xs ys) n ≡ None
zip_none_left [] ys n h = refl
zip_none_left (x ∷ xs) [] n h = refl
zip_none_left (x ∷ xs) (y ∷ ys) zero h = cc
zip_none_left (x ∷ xs) (y ∷ ys) (suc n) h = zip_none_left xs ys n h

zip_none_right : {A B : Type 0} (xs : List A) (ys : List B) (n : ℕ) → slice_get ys n ≡ None → slice_get (zip xs ys) n ≡ None
zip_none_right [] ys n h = refl
zip_none_right (x ∷ xs) [] n h = refl
zip_none_right (x ∷ xs) (y ∷ ys) zero h = cc
zip_none_right (x ∷ xs) (y ∷ ys) (suc n) h = zip_none_right xs ys n h

zip_some : {A B : Type 0} (xs : List A) (ys : List B) (n : ℕ) (x : A) (y : B) → slice_get xs n ≡ Some x → slice_get ys n ≡ Some y → slice_get (zip xs ys) n ≡ Some (x, y)
zip_some [] ys n x y h k = cc
zip_some (a ∷ xs) [] n x y h k = cc
zip_some (a ∷ xs) (b ∷ ys) zero x y h k = cc
zip_some (a ∷ xs) (b ∷ ys) (suc n) x y h k = zip_some xs ys n x y h k

module _ {A : Type 0} (text : List ℕ) (folder : FoundFile) (f : A → List ℕ) (names : List A) (sums : List Sum) (user : ℕ) where
  abbrev lines : Option (List ℕ × Sum) → List ℕ
  lines o = flat_map (λ (x : List ℕ × Sum). folder_sum folder x.0 x.1) (option_to_list o)

  pub no_sum_at : slice_get sums user ≡ None → text ≡ text ++ folder_sum_at folder (map f names) sums user
  no_sum_at h = nothing_added text ∙ ap (λ (o : Option (List ℕ × Sum)). text ++ lines o) (sym (zip_none_right (map f names) sums user h))

  pub no_name_at : length names ≤ user → text ≡ text ++ folder_sum_at folder (map f names) sums user
  no_name_at h = nothing_added text ∙ ap (λ (o : Option (List ℕ × Sum)). text ++ lines o)
      (sym (zip_none_left (map f names) sums user (slice_get_past (map f names) user (omega (arith, h, length-map names f)))))

  pub sum_at : (name d : A) (sum : Sum) → user < length names → name ≡ get_or names user d → slice_get sums user ≡ Some sum
      → text ++ folder_sum folder (f name) sum ≡ text ++ folder_sum_at folder (map f names) sums user
  sum_at name d sum lt is k =
      let within : user < length (map f names) = omega (arith, lt, length-map names f) in
      let here : slice_get (map f names) user ≡ Some (f name) =
      slice_get-get_or (map f names) user (f d) within ∙ ap Some (name_at f names user d lt ∙ ap f (sym is)) in
      ap (λ (l : List ℕ). text ++ l) (sym (append-nil (folder_sum folder (f name) sum)))
      ∙ ap (λ (o : Option (List ℕ × Sum)). text ++ lines o) (sym (zip_some (map f names) sums user (f name) sum here k))

module _ (V : Verdict) (along : Bool) (s : State) (q : Perms) (kind : Option Kind) (folder : FoundFile) where
  -- the sums of all users on the files at a folder or below it
  pub folder_lines_are : {A : Type 0} (f : A → List ℕ) (users : List A) (sums : List Sum) (user : Option ℕ) → map f users ≡ map (λ row. escaped row.name) s.people.users
      → AreSums q (filter (λ row. is_file true (folder.path ∷ []) row.0) (rows_of_kind V along s kind)) users sums
      → folder_sums folder user (map f users) sums ≡ folder_lines V along s q kind user folder
  folder_lines_are f users sums user names are =
      (λ i. folder_sums folder user (names i) (all_sums V along s q kind (folder.path ∷ []) f users sums names are i)) ∙ by user
    where
      name : PasswdRow → List ℕ
      name row = escaped row.name

      files : PasswdRow → List FoundFile
      files row = granted_below V along s q kind (folder.path ∷ []) row

      by : (user : Option ℕ) → folder_sums folder user (map name s.people.users) (map (λ row. sum_of_files (files row)) s.people.users) ≡ folder_lines V along s q kind user folder
      by None = each_line (folder_sum folder) name (λ row. sum_of_files (files row)) s.people.users ∙ lines_are folder name files s.people.users
      by (Some user) = at_place folder name files s.people.users user
