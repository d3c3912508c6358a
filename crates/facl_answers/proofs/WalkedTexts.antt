-- What is printed of the files of a walk, one file after another.
use Rattle.std.proofs.Common.{◌≡◌, ℕ, suc, List, [], ◌∷◌, ◌++◌, append-nil, append_assoc, length, take, refl, sym, ap, ◌∙◌, arith}
use Rattle.std.specs.Prelude.{unwrap_or}
use Rattle.std.specs.List.{flat_map}
use Rattle.acl_names.specs.Paths.{PathOf}
use Rattle.acl_tree.specs.Files.{Files}
use Rattle.acl_tree.specs.Found.{found_file}
use Rattle.acl_tree.specs.Inner.{next_file_below}
use Rattle.path_classes.specs.Classes.{Classed, IsFileTaken}
use Rattle.path_classes.specs.Rows.{Rows}
use Rattle.facl_output.proofs.Parts.{begins_itself, begins_more}
use Rattle.facl_answers.specs.declared.file_walk.FileInClass.{FileInClass}
use Rattle.facl_answers.specs.Inner.{IsStep, RowedFile, Walked, files_left, rowed_file, rowed_files}

-- ---- a step

pub no_files : (rows : Rows) → rowed_files [] rows ≡ []
no_files [] = refl
no_files (row ∷ rows) = refl

pub step_taken : (files left : Files) (old new : Classed) (file : FileInClass) (other : PathOf) → files ≡ (file.path.now, file.node.now) ∷ left → IsFileTaken old (other, file.class) new
    → IsStep (files, old) file (left, new)
step_taken files left old new file other is taken =
    let first : files_left (files, old) ≡ rowed_file (left, new) file ∷ files_left (left, new) =
    (λ i. rowed_files (is i) (taken.first i))
    ∙ ap (λ (row : List ℕ). (found_file (next_file_below file.path.now left) (file.path.now, file.node.now), row) ∷ rowed_files left new.1) (sym (ap (λ o. unwrap_or o []) taken.has))
    in
    let longer : length (files_left (files, old)) ≡ suc (length (files_left (left, new))) = ap length first in
    record { first = first; row = taken.row; has = taken.has; keep = taken.keep; fewer = omega (arith, longer) }

-- ---- what is added file by file

module _ (f : RowedFile → List ℕ) (start : Walked) where
  -- the text so far, and that of the files that are still to come, are the whole text
  pub record IsAdding (old : List ℕ) (rest : Walked) (text : List ℕ) : Type 0 where
    pub whole : text ++ flat_map f (files_left rest) ≡ old ++ flat_map f (files_left start)
    pub begins : take (length old) text ≡ old

  pub adding_starts : (old : List ℕ) → IsAdding old start old
  adding_starts old = record { whole = refl; begins = begins_itself old }

  pub adding_more : (old : List ℕ) (rest next : Walked) (file : FileInClass) (text more : List ℕ) → IsStep rest file next → more ≡ text ++ f (rowed_file next file)
      → IsAdding old rest text → IsAdding old next more
  adding_more old rest next file text more step added at = record {
    whole =
        ap (λ l. l ++ flat_map f (files_left next)) added
        ∙ append_assoc text (f (rowed_file next file)) (flat_map f (files_left next))
        ∙ ap (λ files. text ++ flat_map f files) (sym step.first)
        ∙ at.whole;
    begins = begins_more old text (f (rowed_file next file)) more at.begins added;
  }

  pub adding_ends : (old : List ℕ) (rest : Walked) (text : List ℕ) → files_left rest ≡ [] → IsAdding old rest text → text ≡ old ++ flat_map f (files_left start)
  adding_ends old rest text over at = sym (append-nil text) ∙ ap (λ files. text ++ flat_map f files) (sym over) ∙ at.whole
