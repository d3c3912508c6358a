-- Files of a command, edited: what is put among the files of the tree.
use Rattle.std.proofs.Common.{◌≡◌, Bool, List, [], ◌∷◌, map, Result, Ok, Err, refl, sym, ap, ◌∙◌}
use Rattle.acl_edit.specs.declared.edit.EditFault.{EditFault}
use Rattle.acl_edit.specs.declared.node.Node.{Node}
use Rattle.path_map.specs.Merged.{put_all}
use Rattle.path_map.proofs.Edits.{put_edited}
use Rattle.acl_tree.specs.declared.edit.FileFault.{FileFault}
use Rattle.acl_names.specs.Paths.{PathOf}
use Rattle.acl_names.proofs.Basics.{err_is_not_ok}
use Rattle.acl_tree.specs.Files.{Files, Recorded}
use Rattle.path_map.specs.Entries.{IsInOrder}
use Rattle.acl_tree.specs.Operands.{is_file, edit_files, files_meant}
use Rattle.acl_tree.specs.Edits.{KeepsPlace, and_others, edit_each, edit_all, with_edits}
use Rattle.acl_tree.specs.Inner.{ok_or, node_after}
use Rattle.acl_text.specs.Results.{◌>>=◌}

-- the edits, where there is no fault
abbrev edits_of : Result Files FileFault → Files
edits_of (Ok es) = es
edits_of (Err fault) = []

module _ (edit : PathOf → Node → Result Node EditFault) where
  pub edits_are : (es ns : Files) → edit_each edit es ≡ Ok ns → ns ≡ map (λ e. (e.0, node_after edit e.0 e.1)) es
  edits_are [] ns h = sym (ap edits_of h)
  edits_are (e ∷ es) ns h = by (edit e.0 e.1) refl (edit_each edit es) (λ os is. edits_are es os is) h
    where
      by : (o : Result Node EditFault) → edit e.0 e.1 ≡ o → (r : Result Files FileFault)
          → ((os : Files) → r ≡ Ok os → os ≡ map (λ e. (e.0, node_after edit e.0 e.1)) es) → and_others e.0 o r ≡ Ok ns
          → ns ≡ (e.0, node_after edit e.0 e.1) ∷ map (λ e. (e.0, node_after edit e.0 e.1)) es
      by (Err fault) is r rest h = absurd (err_is_not_ok _ _ h)
      by (Ok n) is (Err fault) rest h = absurd (err_is_not_ok _ _ h)
      by (Ok n) is (Ok os) rest h = sym (ap edits_of h) ∙ (λ i. (e.0, sym (ap (ok_or e.1) is) i) ∷ rest os refl i)

  pub keeps_after : ((p : PathOf) (n m : Node) → edit p n ≡ Ok m → KeepsPlace n m) → (p : PathOf) (n : Node) → KeepsPlace n (node_after edit p n)
  keeps_after law p n = by (edit p n) refl
    where
      by : (o : Result Node EditFault) → edit p n ≡ o → KeepsPlace n (ok_or n o)
      by (Ok m) is = law p n m is
      by (Err fault) is = record { kind = refl; default = λ h. h }

  -- what is put among the files is their edit
  pub put_edits : (recursive : Bool) (paths : List PathOf) (t ns : Files) → IsInOrder t → edit_each edit (files_meant recursive paths t) ≡ Ok ns
      → put_all ns t ≡ edit_files (is_file recursive paths) (node_after edit) t
  put_edits recursive paths t ns order h =
      ap (λ l. put_all l t) (edits_are (files_meant recursive paths t) ns h) ∙ put_edited (is_file recursive paths) (node_after edit) t order

-- ---- an edit that never fails

module _ (f : PathOf → Node → Node) where
  each_edited : (es : Files) → edit_each (λ p n. Ok (f p n)) es ≡ Ok (map (λ e. (e.0, f e.0 e.1)) es)
  each_edited [] = refl
  each_edited (e ∷ es) = ap (λ r. and_others e.0 (Ok (f e.0 e.1)) r) (each_edited es)

  all_edited : (recursive : Bool) (paths : List PathOf) (t : Recorded) → IsInOrder t.files
      → edit_all (λ p n. Ok (f p n)) recursive paths t ≡ Ok (record t { files = edit_files (is_file recursive paths) f t.files })
  all_edited recursive paths t order =
      ap (λ r. r >>= with_edits t) (each_edited (files_meant recursive paths t.files))
      ∙ ap (λ es. Ok (record t { files = es })) (put_edited (is_file recursive paths) f t.files order)

  abbrev tree_or : Recorded → Result Recorded FileFault → Recorded
  tree_or t (Ok new) = new
  tree_or t (Err fault) = t

  pub never_fails : (recursive : Bool) (paths : List PathOf) (t new : Recorded) → IsInOrder t.files → edit_all (λ p n. Ok (f p n)) recursive paths t ≡ Ok new
      → new ≡ record t { files = edit_files (is_file recursive paths) f t.files }
  never_fails recursive paths t new order h = ap (tree_or t) (sym h ∙ all_edited recursive paths t order)
