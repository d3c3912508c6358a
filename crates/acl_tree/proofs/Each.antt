-- The files of a command, edited one by one.
use Rattle.std.proofs.Common.{◌≡◌, Bool, true, false, cond, if◌then◌else◌, List, [], ◌∷◌, filter, Option, Some, None, Result, Ok, Err, Ordering, Less, Equal, Greater, refl, sym, ap, ◌∙◌}
use Rattle.std.specs.Prelude.{option_map}
use Rattle.std.specs.Ordering.{is_eq}
use Rattle.std.specs.FinMap.{find}
use Rattle.acl_names.specs.Paths.{path_cmp, PathOf}
use Rattle.acl_names.proofs.PathOrder.{exact_paths}
use Rattle.acl_names.proofs.Basics.{err_is_not_ok, none_is_not_some, false_is_not_true}
use Rattle.acl_text.specs.declared.record.DumpRecord.{DumpRecord}
use Rattle.acl_text.specs.Results.{◌>>=◌, unless, map_err}
use Rattle.acl_edit.specs.declared.edit.Edit.{Edit}
use Rattle.acl_edit.specs.declared.edit.EditFault.{EditFault}
use Rattle.acl_edit.specs.declared.node.Node.{Node}
use Rattle.acl_tree.specs.declared.fault.TreeFault.{TreeFault}
use Rattle.acl_tree.specs.declared.edit.FileFault.{FileFault}
use Rattle.acl_tree.specs.Files.{Files, Recorded}
use Rattle.path_map.specs.Entries.{IsInOrder}
use Rattle.acl_tree.specs.Operands.{is_file, edit_files, files_meant, first_missing}
use Rattle.acl_tree.specs.Edits.{and_others, edit_each, edit_all, with_edits, file_fault}
use Rattle.acl_tree.specs.EditCommand.{edit_one, edited_tree}
use Rattle.acl_tree.specs.Restoring.{restore_one, paths_of, restored_tree}
use Rattle.acl_tree.specs.Inner.{ok_or, node_after}
use Rattle.acl_tree.specs.Laws.{EditsEach}
use Rattle.acl_tree.specs.Changed.{gone_between}
use Rattle.acl_tree.proofs.Changes.{gone-edited}
use Rattle.acl_tree.proofs.Edits.{put_edits}
use Rattle.acl_tree.proofs.Selected.{filter_alike}
use Rattle.acl_tree.specs.declared.fault.TreeFault.TheVariants.{NoSuchFile}

pub same : {A : Type 0} (o : Option A) → option_map (λ a. a) o ≡ o
same None = refl
same (Some a) = refl

abbrev node_in : Node → Option Node → Node
node_in n None = n
node_in n (Some m) = m

module _ (p : PathOf) where
  pub find-edited : (test : PathOf → Bool) (g : PathOf → Node → Node) (t : Files) → find path_cmp p (edit_files test g t) ≡ option_map (λ n. if test p then g p n else n) (find path_cmp p t)
  find-edited test g [] = refl
  find-edited test g (e ∷ t) = by (path_cmp p e.0) refl (find-edited test g t)
    where
      by : (o : Ordering) → path_cmp p e.0 ≡ o → find path_cmp p (edit_files test g t) ≡ option_map (λ n. if test p then g p n else n) (find path_cmp p t)
          → cond (is_eq o) (Some (if test e.0 then g e.0 e.1 else e.1)) (find path_cmp p (edit_files test g t))
          ≡ option_map (λ n. if test p then g p n else n) (cond (is_eq o) (Some e.1) (find path_cmp p t))
      by Equal is rest = ap (λ q. Some (if test q then g q e.1 else e.1)) (sym (exact_paths p e.0 is))
      by Less is rest = rest
      by Greater is rest = rest

  find-meant : (test : PathOf → Bool) (t : Files) → test p ≡ true → find path_cmp p (filter (λ e. test e.0) t) ≡ find path_cmp p t
  find-meant test [] hit = refl
  find-meant test (e ∷ t) hit = by (test e.0) refl (path_cmp p e.0) refl (find-meant test t hit)
    where
      by : (b : Bool) → test e.0 ≡ b → (o : Ordering) → path_cmp p e.0 ≡ o → find path_cmp p (filter (λ e. test e.0) t) ≡ find path_cmp p t
          → find path_cmp p (cond b (e ∷ filter (λ e. test e.0) t) (filter (λ e. test e.0) t)) ≡ cond (is_eq o) (Some e.1) (find path_cmp p t)
      by true _ o is rest = ap (λ o. cond (is_eq o) (Some e.1) (find path_cmp p (filter (λ e. test e.0) t))) is ∙ ap (λ f. cond (is_eq o) (Some e.1) f) rest
      by false out Equal is rest = absurd (false_is_not_true (sym out ∙ ap test (sym (exact_paths p e.0 is)) ∙ hit))
      by false out Less is rest = rest
      by false out Greater is rest = rest

module _ (edit : PathOf → Node → Result Node EditFault) where
  head_ok : (q : PathOf) (o : Result Node EditFault) (r : Result Files FileFault) (ns : Files) (n : Node) → and_others q o r ≡ Ok ns → o ≡ Ok (ok_or n o)
  head_ok q (Ok m) r ns n h = refl
  head_ok q (Err f) r ns n h = absurd (err_is_not_ok _ _ h)

  -- a file that is edited among others has no fault
  each_ok : (p : PathOf) (es ns : Files) → edit_each edit es ≡ Ok ns → (n : Node) → find path_cmp p es ≡ Some n → edit p n ≡ Ok (node_after edit p n)
  each_ok p [] ns h n at = absurd (none_is_not_some n at)
  each_ok p (e ∷ es) ns h n at = by (path_cmp p e.0) refl (edit e.0 e.1) (edit_each edit es) refl (head_ok e.0 (edit e.0 e.1) (edit_each edit es) ns e.1 h) h (λ os is. each_ok p es os is n) at
    where
      later : (o : Result Node EditFault) (r : Result Files FileFault) → edit_each edit es ≡ r → and_others e.0 o r ≡ Ok ns
          → ((os : Files) → edit_each edit es ≡ Ok os → find path_cmp p es ≡ Some n → edit p n ≡ Ok (node_after edit p n)) → find path_cmp p es ≡ Some n → edit p n ≡ Ok (node_after edit p n)
      later (Ok m) (Ok os) is h rest at = rest os is at
      later (Ok m) (Err f) is h rest at = absurd (err_is_not_ok _ _ h)
      later (Err f) r is h rest at = absurd (err_is_not_ok _ _ h)

      by : (c : Ordering) → path_cmp p e.0 ≡ c → (o : Result Node EditFault) (r : Result Files FileFault) → edit_each edit es ≡ r
          → edit e.0 e.1 ≡ Ok (node_after edit e.0 e.1) → and_others e.0 o r ≡ Ok ns
          → ((os : Files) → edit_each edit es ≡ Ok os → find path_cmp p es ≡ Some n → edit p n ≡ Ok (node_after edit p n))
          → cond (is_eq c) (Some e.1) (find path_cmp p es) ≡ Some n → edit p n ≡ Ok (node_after edit p n)
      by Equal is o r rs first h rest at =
          let paths = exact_paths p e.0 is in
          let nodes : e.1 ≡ n = ap (node_in n) at in
          (λ i. edit (paths i) (sym nodes i)) ∙ first ∙ (λ i. Ok (node_after edit (sym paths i) (nodes i)))
      by Less is o r rs first h rest at = later o r rs h rest at
      by Greater is o r rs first h rest at = later o r rs h rest at

  abbrev files_in : Files → Result Recorded FileFault → Files
  files_in es (Ok t) = t.files
  files_in es (Err fault) = es

  -- what is edited
  pub edited_files : (recursive : Bool) (paths : List PathOf) (old new : Recorded) → IsInOrder old.files → edit_all edit recursive paths old ≡ Ok new
      → new.files ≡ edit_files (is_file recursive paths) (node_after edit) old.files
  edited_files recursive paths old new order h = by (edit_each edit (files_meant recursive paths old.files)) refl h
    where
      by : (r : Result Files FileFault) → edit_each edit (files_meant recursive paths old.files) ≡ r → (r >>= with_edits old) ≡ Ok new
          → new.files ≡ edit_files (is_file recursive paths) (node_after edit) old.files
      by (Err f) is h = absurd (err_is_not_ok _ _ h)
      by (Ok ns) is h = ap (files_in old.files) (sym h) ∙ put_edits edit recursive paths old.files ns order is

  pub kept_edited : (recursive : Bool) (paths : List PathOf) (old new : Recorded) → IsInOrder old.files → edit_all edit recursive paths old ≡ Ok new → gone_between old.files new.files ≡ []
  kept_edited recursive paths old new order h =
      ap (λ es. gone_between old.files es) (edited_files recursive paths old new order h) ∙ gone-edited (is_file recursive paths) (node_after edit) old.files order

  -- the same files are edited by other words
  pub edit_alike : (r s : Bool) (ps qs : List PathOf) (t : Recorded) → ((q : PathOf) → is_file r ps q ≡ is_file s qs q) → edit_all edit r ps t ≡ edit_all edit s qs t
  edit_alike r s ps qs t same = ap (λ es. edit_each edit es >>= with_edits t) (filter_alike (is_file r ps) (is_file s qs) same t.files)

  pub edits_each : (recursive : Bool) (paths : List PathOf) (old new : Recorded) → IsInOrder old.files → edit_all edit recursive paths old ≡ Ok new → EditsEach edit recursive paths old new
  edits_each recursive paths old new order h = by (edit_each edit (files_meant recursive paths old.files)) refl h
    where
      by : (r : Result Files FileFault) → edit_each edit (files_meant recursive paths old.files) ≡ r → (r >>= with_edits old) ≡ Ok new → EditsEach edit recursive paths old new
      by (Err f) is h = absurd (err_is_not_ok _ _ h)
      by (Ok ns) is h = record {
        edited = λ p n hit at.
            ap (λ o. option_map Ok o) (found p ∙ (λ i. option_map (λ n. if hit i then node_after edit p n else n) (at i)))
            ∙ ap Some (sym (each_ok p (files_meant recursive paths old.files) ns is n (find-meant p (is_file recursive paths) old.files hit ∙ at)));
        others = λ p out. found p ∙ ap (λ b. option_map (λ n. if b then node_after edit p n else n) (find path_cmp p old.files)) out ∙ same (find path_cmp p old.files);
      }
        where
          found : (p : PathOf) → find path_cmp p new.files ≡ option_map (λ n. if is_file recursive paths p then node_after edit p n else n) (find path_cmp p old.files)
          found p =
              ap (λ es. find path_cmp p es) (edited_files recursive paths old new order (ap (λ r. r >>= with_edits old) is ∙ h))
              ∙ find-edited p (is_file recursive paths) (node_after edit) old.files

none_missing : (missing : Option PathOf) (r : Result Recorded FileFault) (new : Recorded) → unless (option_map NoSuchFile missing) (map_err file_fault r) ≡ Ok new → r ≡ Ok new
none_missing (Some p) r new h = absurd (err_is_not_ok _ _ h)
none_missing None (Ok t) new h = ap (λ t. Ok t) (ap (tree_in t) h)
  where
    tree_in : Recorded → Result Recorded TreeFault → Recorded
    tree_in t (Ok new) = new
    tree_in t (Err fault) = t
none_missing None (Err fault) new h = absurd (err_is_not_ok _ _ h)

pub edit_each_file : (recursive : Bool) (paths : List PathOf) (e : Edit) (old new : Recorded) → IsInOrder old.files
    → edited_tree recursive paths e old ≡ Ok new → EditsEach (edit_one e recursive) recursive paths old new
edit_each_file recursive paths e old new order h =
    edits_each (edit_one e recursive) recursive paths old new order (none_missing (first_missing paths old.files) (edit_all (edit_one e recursive) recursive paths old) new h)

pub restore_each_file : (records : List DumpRecord) (old new : Recorded) → IsInOrder old.files → restored_tree records old ≡ Ok new → EditsEach (restore_one records) false (paths_of records) old new
restore_each_file records old new order h =
    edits_each (restore_one records) false (paths_of records) old new order
    (none_missing (first_missing (paths_of records) old.files) (edit_all (restore_one records) false (paths_of records) old) new h)

-- no file is gone by a restore
pub kept_restored : (records : List DumpRecord) (old new : Recorded) → IsInOrder old.files → restored_tree records old ≡ Ok new → gone_between old.files new.files ≡ []
kept_restored records old new order h =
    kept_edited (restore_one records) false (paths_of records) old new order
    (none_missing (first_missing (paths_of records) old.files) (edit_all (restore_one records) false (paths_of records) old) new h)
