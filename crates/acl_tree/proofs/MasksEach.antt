-- The rules on masks, at each file of an edit.
use Rattle.std.proofs.Common.{◌≡◌, Bool, true, false, List, Option, Result, Ok, Err, if◌then◌else◌, refl, sym, ap, subst, ◌∙◌}
use Rattle.std.specs.Prelude.{option_map}
use Rattle.acl_entry.specs.Lists.{KeyMap}
use Rattle.acl_edit.specs.Edits.{edit, change, changed_access, changed_default, is_misplaced}
use Rattle.acl_edit.specs.Nodes.{with_lists}
use Rattle.acl_edit.specs.Changes.{Change, edit_of}
use Rattle.acl_edit.specs.declared.edit.EditFault.{EditFault}
use Rattle.acl_edit.specs.declared.edit.EditFault.TheVariants.{DefaultOnFile}
use Rattle.acl_edit.specs.declared.node.Node.{Node}
use Rattle.acl_edit.proofs.Lines.{makes_mask, shows_recalculated, bounds_recalculated}
use Rattle.acl_names.specs.Paths.{PathOf}
use Rattle.acl_names.proofs.Basics.{err_is_not_ok, some_eq}
use Rattle.acl_tree.specs.Files.{Recorded}
use Rattle.path_map.specs.Entries.{IsInOrder}
use Rattle.acl_tree.specs.EditCommand.{edited_tree}
use Rattle.acl_tree.specs.Laws.{KeepsMaskRules, MasksEach}
use Rattle.acl_tree.proofs.Each.{edit_each_file}
use Rattle.acl_text.specs.Results.{◌>>=◌}

abbrev node_or : Node → Result Node EditFault → Node
node_or n (Ok m) = m
node_or n (Err fault) = n

module _ (n : Node) (line : Change) (m : Node) where
  lists : (acl : Result KeyMap EditFault) → changed_access n line ≡ acl → (acl >>= λ acl. changed_default n.kind n line acl >>= λ dacl. Ok (with_lists n acl dacl)) ≡ Ok m → KeepsMaskRules n line m
  lists (Err fault) made h = absurd (err_is_not_ok _ _ h)
  lists (Ok acl) made h = by (changed_default n.kind n line acl) refl h
    where
      by : (r : Result (Option KeyMap) EditFault) → changed_default n.kind n line acl ≡ r → (r >>= λ dacl. Ok (with_lists n acl dacl)) ≡ Ok m → KeepsMaskRules n line m
      by (Err fault) is h = absurd (err_is_not_ok _ _ h)
      by (Ok dacl) is h = subst (λ m. KeepsMaskRules n line m) (ap (node_or n) h) (record {
        made = makes_mask n line acl dacl made is;
        shown = shows_recalculated n line acl dacl made is;
        bounded = bounds_recalculated n line acl dacl made is;
      })

  -- the rules are true at one file
  one : (recursive : Bool) → edit n (edit_of line) recursive ≡ Ok m → KeepsMaskRules n line m
  unfolding change
  one recursive h = by (is_misplaced n line recursive) h
    where
      by : (b : Bool) → (if b then Err DefaultOnFile else (changed_access n line >>= λ acl. changed_default n.kind n line acl >>= λ dacl. Ok (with_lists n acl dacl))) ≡ Ok m → KeepsMaskRules n line m
      by true h = absurd (err_is_not_ok _ _ h)
      by false h = lists (changed_access n line) refl h

pub masks_each : (recursive : Bool) (paths : List PathOf) (line : Change) (old new : Recorded) → IsInOrder old.files
    → edited_tree recursive paths (edit_of line) old ≡ Ok new → MasksEach line recursive paths old new
masks_each recursive paths line old new order h p n m is before after =
    one n line m recursive
    (sym (some_eq (Ok m) (edit n (edit_of line) recursive) (sym (ap (λ o. option_map Ok o) after) ∙ (edit_each_file recursive paths (edit_of line) old new order h).edited p n is before)))
