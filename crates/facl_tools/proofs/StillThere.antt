-- The files of a command are recorded after it too.
use Rattle.std.proofs.Common.{◌≡◌, Bool, true, false, ◌||◌, cond, List, [], ◌∷◌, Option, Some, None, Result, Ok, Err, refl, ap, ◌∙◌}
use Rattle.std.specs.Prelude.{is_some, option_map}
use Rattle.std.specs.List.{AllByRecursion}
use Rattle.std.specs.Ordering.{is_eq}
use Rattle.std.specs.FinMap.{find}
use Rattle.std.proofs.lemmas.Cmp.{tied_itself}
use Rattle.acl_names.specs.Paths.{path_cmp, PathOf}
use Rattle.acl_names.proofs.PathOrder.{path_total}
use Rattle.acl_text.specs.declared.record.DumpRecord.{DumpRecord}
use Rattle.acl_text.specs.Results.{◌>>=◌, unless, map_err}
use Rattle.acl_edit.specs.declared.edit.Edit.{Edit}
use Rattle.acl_edit.specs.declared.edit.EditFault.{EditFault}
use Rattle.acl_edit.specs.declared.node.Node.{Node}
use Rattle.acl_names.proofs.Below.{within_itself}
use Rattle.acl_names.proofs.Basics.{err_is_not_ok, or_true}
use Rattle.acl_tree.specs.EditCommand.{edit_one, edited_tree}
use Rattle.acl_tree.specs.Edits.{edit_all, file_fault}
use Rattle.acl_tree.specs.Files.{Recorded}
use Rattle.path_map.specs.Entries.{IsInOrder}
use Rattle.acl_tree.specs.Laws.{EditsEach, EachFileIsEdited, EachFileIsRestored}
use Rattle.acl_tree.specs.Operands.{means, is_file, first_missing}
use Rattle.acl_tree.specs.Restoring.{restore_one, paths_of, restored_tree}
use Rattle.acl_tree.specs.State.{State, with_tree}
use Rattle.acl_tree.specs.Step.{step}
use Rattle.acl_tree.specs.declared.command.Command.TheVariants.{Edit as EditFiles, Restore}
use Rattle.acl_tree.specs.declared.fault.TreeFault.{TreeFault}
use Rattle.acl_tree.specs.declared.fault.TreeFault.TheVariants.{NoSuchFile}
use Rattle.facl_output.specs.declared.fault.LineFault.{LineFault}

abbrev ok_or : {A : Type 0} → A → Result A LineFault → A
ok_or a (Ok b) = b
ok_or a (Err fault) = a

pub ok_is : {A : Type 0} (a b : A) → ◌≡◌ {A = Result A LineFault} (Ok a) (Ok b) → a ≡ b
ok_is a b h = ap (ok_or a) h

means_itself : (recursive : Bool) (p : PathOf) → means recursive p p ≡ true
means_itself true p = within_itself p
means_itself false p = ap is_eq (tied_itself path_total p)

-- the paths are files of the command with these operands
abbrev AreFiles : Bool → List PathOf → List PathOf → Type 0
AreFiles recursive paths ps = AllByRecursion (λ p. is_file recursive paths p ≡ true) ps

one_operand_more : (recursive : Bool) (q : PathOf) (paths ps : List PathOf) → AreFiles recursive paths ps → AreFiles recursive (q ∷ paths) ps
one_operand_more recursive q paths [] h = tt
one_operand_more recursive q paths (p ∷ ps) h = (ap (λ b. means recursive q p || b) h.0 ∙ or_true (means recursive q p), one_operand_more recursive q paths ps h.1)

operands_are_files : (recursive : Bool) (paths : List PathOf) → AreFiles recursive paths paths
operands_are_files recursive [] = tt
operands_are_files recursive (p ∷ paths) =
    (ap (λ b. b || is_file recursive paths p) (means_itself recursive p), one_operand_more recursive p paths paths (operands_are_files recursive paths))

some_is_there : (o : Option Node) (r : Result Node EditFault) → option_map Ok o ≡ Some r → is_some o ≡ true
some_is_there None r h = absurd (cc h)
some_is_there (Some n) r h = refl

module _ (edit : PathOf → Node → Result Node EditFault) (recursive : Bool) (paths : List PathOf) (old new : Recorded) where
  kept : EditsEach edit recursive paths old new → (ps : List PathOf) → AreFiles recursive paths ps → first_missing ps old.files ≡ None → first_missing ps new.files ≡ None
  kept each [] are h = refl
  kept each (p ∷ ps) are h = by (find path_cmp p old.files) refl h (kept each ps are.1)
    where
      by : (o : Option Node) → find path_cmp p old.files ≡ o → cond (is_some o) (first_missing ps old.files) (Some p) ≡ None
          → (first_missing ps old.files ≡ None → first_missing ps new.files ≡ None) → first_missing (p ∷ ps) new.files ≡ None
      by None is h rest = absurd (cc h)
      by (Some n) is h rest =
          ap (λ b. cond b (first_missing ps new.files) (Some p)) (some_is_there (find path_cmp p new.files) (edit p n) (each.edited p n are.0 is)) ∙ rest h

  still_there : EditsEach edit recursive paths old new → first_missing paths old.files ≡ None → first_missing paths new.files ≡ None
  still_there each h = kept each paths (operands_are_files recursive paths) h

none_missing : (missing : Option PathOf) (edit : PathOf → Node → Result Node EditFault) (recursive : Bool) (paths : List PathOf) (old new : Recorded)
    → unless (option_map NoSuchFile missing) (map_err file_fault (edit_all edit recursive paths old)) ≡ Ok new → missing ≡ None
none_missing (Some p) edit recursive paths old new h = absurd (err_is_not_ok _ _ h)
none_missing None edit recursive paths old new h = refl

abbrev tree_in : Recorded → Result State TreeFault → Recorded
tree_in t (Ok s) = s.tree
tree_in t (Err fault) = t

tree_after : (s new : State) (r : Result Recorded TreeFault) → (r >>= with_tree s) ≡ Ok new → r ≡ Ok new.tree
tree_after s new (Ok t) h = ap (λ (r : Result State TreeFault). Ok (tree_in t r)) h
tree_after s new (Err fault) h = absurd (err_is_not_ok _ _ h)

pub edited_are_there : EachFileIsEdited → (s new : State) (recursive : Bool) (paths : List PathOf) (e : Edit) → IsInOrder s.tree.files
    → step s (EditFiles paths e recursive) ≡ Ok new → first_missing paths new.tree.files ≡ None
edited_are_there law s new recursive paths e order h =
    let edited = tree_after s new (edited_tree recursive paths e s.tree) h in
    still_there (edit_one e recursive) recursive paths s.tree new.tree (law recursive paths e s.tree new.tree order edited)
    (none_missing (first_missing paths s.tree.files) (edit_one e recursive) recursive paths s.tree new.tree edited)

pub restored_are_there : EachFileIsRestored → (s new : State) (records : List DumpRecord) → IsInOrder s.tree.files → step s (Restore records) ≡ Ok new
    → first_missing (paths_of records) new.tree.files ≡ None
restored_are_there law s new records order h =
    let restored = tree_after s new (restored_tree records s.tree) h in
    still_there (restore_one records) false (paths_of records) s.tree new.tree (law records s.tree new.tree order restored)
    (none_missing (first_missing (paths_of records) s.tree.files) (restore_one records) false (paths_of records) s.tree new.tree restored)
