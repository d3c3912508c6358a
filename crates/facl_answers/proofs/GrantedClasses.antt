-- The files on which a user is granted a request, by a table of classes.
use Rattle.std.proofs.Common.{◌≡◌, ℕ, ◌+◌, ◌<◌, Bool, true, false, cond, List, [], ◌∷◌, ◌++◌, get_or, length, length-append, map, filter, Some, below_more, refl, sym, ap, subst, ◌∙◌, arith}
use Rattle.std.specs.Prelude.{option_and_then, option_map, slice_get, unwrap_or}
use Rattle.std.specs.List.{flat_map}
use Rattle.std.specs.Option.{option_map_or}
use Rattle.std.proofs.lemmas.List.{get_or_append_left, get_or_push}
use Rattle.std.proofs.lemmas.Option.{slice_get-get_or}
use Rattle.acl_entry.specs.Check.{has}
use Rattle.acl_entry.specs.Perms.{Perms}
use Rattle.acl_text.specs.declared.rows.PasswdRow.{PasswdRow}
use Rattle.acl_tree.specs.Found.{FoundFile}
use Rattle.acl_tree.specs.State.{State}
use Rattle.path_classes.specs.Classes.{KeepRows}
use Rattle.path_classes.specs.Rows.{grants}
use Rattle.acl_rights.specs.Rows.{Verdict}
use Rattle.acl_rights.specs.Verdicts.{granted}
use Rattle.facl_answers.specs.declared.file_walk.FileInClass.{FileInClass}
use Rattle.facl_answers.specs.Answers.{all_files, file_line, may_text}
use Rattle.facl_answers.specs.Inner.{AreGranted, IsGranted, IsStep, RowedFile, Walked, files_granted, granted_text, rowed_file}
use Rattle.facl_answers.proofs.GrantedFiles.{cell_granted, cells_granted}
use Rattle.facl_answers.proofs.WalkedTexts.{IsAdding, adding_more}

-- ---- the table

module _ (q : Perms) (user : ℕ) where
  pub none_granted : (rows : List (List ℕ)) (table : List Bool) → table ≡ [] → AreGranted q user rows table
  none_granted rows table none class lt = let empty : length table ≡ 0 = ap length none in absurd (omega (arith, empty, lt))

  pub granted_later : (old new : List (List ℕ)) (table : List Bool) → KeepRows old new → AreGranted q user old table → AreGranted q user new table
  granted_later old new table keep known class lt = let row = known class lt in (row.0, (keep class row.0 row.1.0, row.1.1))

  module _ (rows : List (List ℕ)) (table new : List Bool) (b : Bool) (within : length table < length rows) (more : new ≡ table ++ b ∷ [])
      (is : b ≡ option_map_or (λ c. has c q) (option_and_then (λ (row : List ℕ). slice_get row user) (slice_get rows (length table))) false) where
    earlier : AreGranted q user rows table → (class : ℕ) → class < length table → IsGranted q user rows class (get_or new class false)
    earlier known class lt = subst (IsGranted q user rows class) (sym (ap (λ l. get_or l class false) more ∙ get_or_append_left table (b ∷ []) false class lt)) (known class lt)

    last : IsGranted q user rows (length table) (get_or new (length table) false)
    last =
        let has_row = slice_get-get_or rows (length table) [] within in
        let is_last : get_or new (length table) false ≡ grants q user (get_or rows (length table) []) =
        ap (λ l. get_or l (length table) false) more ∙ get_or_push table b false (length table) refl ∙ is
        ∙ ap (λ o. option_map_or (λ c. has c q) (option_and_then (λ (row : List ℕ). slice_get row user) o) false) has_row
        in
        (get_or rows (length table) [], (has_row, is_last))

    -- one class more
    pub granted_more : AreGranted q user rows table → AreGranted q user rows new
    granted_more known class lt =
        let longer : length new ≡ length table + 1 = ap length more ∙ length-append table (b ∷ []) in
        below_more (λ k. IsGranted q user rows k (get_or new k false)) (length table) (earlier known) last class (omega (arith, longer, lt))

  -- ---- a walk

  line_is : (rest : Walked) (file : FileInClass) (b : Bool) → IsGranted q user rest.1.0 file.class b → granted_text q user (rowed_file rest file) ≡ cond b (file_line (rowed_file rest file).0) []
  line_is rest file b known = ap (λ c. cond c (file_line (rowed_file rest file).0) []) (ap (λ o. grants q user (unwrap_or o [])) known.1.0 ∙ sym known.1.1)

  -- one file more
  pub line_added : (start : Walked) (old : List ℕ) (rest next : Walked) (file : FileInClass) (text more : List ℕ) (b : Bool) → IsStep rest file next → IsGranted q user next.1.0 file.class b
      → more ≡ text ++ cond b (file_line (rowed_file next file).0) [] → IsAdding (granted_text q user) start old rest text → IsAdding (granted_text q user) start old next more
  line_added start old rest next file text more b step known added at =
      adding_more (granted_text q user) start old rest next file text more step (added ∙ ap (λ l. text ++ l) (sym (line_is next file b known))) at

  -- ---- of a state

  module _ (V : Verdict) (along : Bool) (s : State) (row : PasswdRow) (is : slice_get s.people.users user ≡ Some row) where
    abbrev cells : FoundFile → List ℕ
    cells file = cells_granted V s along (file.path, file.node)

    abbrev test : FoundFile → Bool
    test file = has (granted V along s row (file.path, file.node)) q

    grants_is : (file : FoundFile) → grants q user (cells file) ≡ test file
    grants_is file =
        ap (λ o. option_map_or (λ c. has c q) o false)
        (cell_granted V s along (file.path, file.node) user ∙ ap (option_map (λ row. granted V along s row (file.path, file.node))) is)

    each : (files : List FoundFile) → flat_map (granted_text q user) (map {B = RowedFile} (λ file. (file, cells file)) files) ≡ flat_map file_line (filter test files)
    each [] = refl
    each (file ∷ files) =
        ap (λ b. cond b (file_line file) [] ++ flat_map (granted_text q user) (map {B = RowedFile} (λ file. (file, cells file)) files)) (grants_is file)
        ∙ by (test file) (each files)
      where
        by : (b : Bool) → flat_map (granted_text q user) (map {B = RowedFile} (λ file. (file, cells file)) files) ≡ flat_map file_line (filter test files)
            → cond b (file_line file) [] ++ flat_map (granted_text q user) (map {B = RowedFile} (λ file. (file, cells file)) files)
            ≡ flat_map file_line (cond b (file ∷ filter test files) (filter test files))
        by true more = ap (λ l. file_line file ++ l) more
        by false more = more

    -- the lines of the files on which the user is granted the request
    pub may_lines : Some (flat_map (granted_text q user) (files_granted V along s)) ≡ may_text V along s q user
    may_lines =
        ap Some (each (all_files s))
        ∙ sym (ap (option_map (λ row. flat_map file_line (filter (λ file. has (granted V along s row (file.path, file.node)) q) (all_files s)))) is)
