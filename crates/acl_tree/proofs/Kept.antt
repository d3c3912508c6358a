-- What an edit of a sound tree and what a load of a dump leave is a sound tree.
use Rattle.std.proofs.Common.{◌≡◌, suc, ◌+◌, ◌≤◌, Bool, true, false, ◌||◌, eqb, List, [], ◌∷◌, length, Option, Some, None, is_some, if◌then◌else◌, Ordering}
use Rattle.std.proofs.Common.{Less, Equal, Greater, refl, sym, ap, subst, ◌∙◌, arith}
use Rattle.std.specs.Prelude.{fold}
use Rattle.std.specs.FinMap.Entries.{by_order}
use Rattle.std.proofs.lemmas.List.{length-map}
use Rattle.acl_entry.specs.Lists.{KeyMap}
use Rattle.acl_names.specs.Paths.{path_cmp, PathOf}
use Rattle.acl_text.specs.declared.record.DumpRecord.{DumpRecord}
use Rattle.acl_edit.specs.declared.node.Node.{Node}
use Rattle.acl_edit.specs.declared.node.Kind.TheVariants.{Plain, Directory}
use Rattle.acl_tree.specs.Files.{Files, Recorded, max_files}
use Rattle.acl_names.specs.Below.{is_above}
use Rattle.acl_names.proofs.Basics.{any-map}
use Rattle.acl_tree.specs.Operands.{edit_files}
use Rattle.acl_tree.specs.Edits.{KeepsPlace}
use Rattle.acl_tree.specs.Loading.{insert_record, is_directory, node_of, has_below, as_files, files_of, in_path_order}
use Rattle.path_map.specs.Below.{holds_below}
use Rattle.acl_tree.specs.Sound.{IsPlaced, ArePlaced, IsSoundTree}
use Rattle.acl_tree.proofs.Edited.{in_order-edited}
use Rattle.acl_tree.proofs.Loaded.{files_in_order}

-- ---- an edit

same_below : (test : PathOf → Bool) (g : PathOf → Node → Node) (es : Files) (p : PathOf) → holds_below (edit_files test g es) p ≡ holds_below es p
same_below test g [] p = refl
same_below test g (e ∷ es) p = ap (λ b. is_above p e.0 || b) (same_below test g es p)

module _ (test : PathOf → Bool) (g : PathOf → Node → Node) (keeps : (p : PathOf) (n : Node) → KeepsPlace n (g p n)) where
  chosen : (all : Files) (e : PathOf × Node) (b : Bool) → IsPlaced all e → IsPlaced (edit_files test g all) (e.0, if b then g e.0 e.1 else e.1)
  chosen all e true is = record {
    directory = λ h. (keeps e.0 e.1).kind ∙ is.directory (ap (λ b. eqb (length e.0) 0 || b) (sym (same_below test g all e.0)) ∙ h);
    default = (keeps e.0 e.1).default is.default;
  }
  chosen all e false is = record {
    directory = λ h. is.directory (ap (λ b. eqb (length e.0) 0 || b) (sym (same_below test g all e.0)) ∙ h);
    default = is.default;
  }

  edited_placed : (all es : Files) → ArePlaced all es → ArePlaced (edit_files test g all) (edit_files test g es)
  edited_placed all [] h = tt
  edited_placed all (e ∷ es) h = (chosen all e (test e.0) h.0, edited_placed all es h.1)

  pub edited_sound : (t : Recorded) → IsSoundTree t → IsSoundTree (record t { files = edit_files test g t.files })
  edited_sound t sound = record {
    order = in_order-edited test g t.files sound.order;
    few = subst (λ n. n ≤ max_files) (sym (length-map t.files (λ e. (e.0, if test e.0 then g e.0 e.1 else e.1)))) sound.few;
    unloaded = λ none. ap (λ es. edit_files test g es) (sound.unloaded none);
    placed = edited_placed t.files t.files sound.placed;
  }

-- ---- a dump

or_last : (a b c d : Bool) → (b || d) ≡ true → (a || (b || (c || d))) ≡ true
or_last true b c d h = refl
or_last false true c d h = refl
or_last false false true d h = refl
or_last false false false d h = h

kind_is : (b : Bool) → b ≡ true → (if b then Directory else Plain) ≡ Directory
kind_is true h = refl
kind_is false h = absurd (false_is_not_true h)
  where
    false_is_not_true : false ≡ true → ⊥
    false_is_not_true e = cc

only_directories : (a b c : Bool) (dacl : Option KeyMap) → (if (a || (b || (is_some dacl || c))) then Directory else Plain) ≡ Plain → dacl ≡ None
only_directories a b c None h = refl
only_directories true b c (Some d) h = cc
only_directories false true c (Some d) h = cc
only_directories false false c (Some d) h = cc

loaded_placed : (all records : List DumpRecord) → ArePlaced (as_files all all) (as_files all records)
loaded_placed all [] = tt
loaded_placed all (r ∷ rs) = (
  record {
    directory = λ h. kind_is (is_directory (has_below all r.path) r)
        (or_last r.slash (eqb (length r.path) 0) (is_some r.dacl) (has_below all r.path)
        (ap (λ b. eqb (length r.path) 0 || b) (sym (any-map (λ (e : PathOf × Node). is_above r.path e.0) (λ s. let e : PathOf × Node = (s.path, node_of (has_below all s.path) s) in e) all)) ∙ h));
    default = λ h. only_directories r.slash (eqb (length r.path) 0) (has_below all r.path) r.dacl h;
  },
  loaded_placed all rs,
)

one_more : (r : DumpRecord) (rs : List DumpRecord) → length (insert_record r rs) ≤ suc (length rs)
one_more r [] = omega arith
one_more r (s ∷ rs) = by (path_cmp r.path s.path) (one_more r rs)
  where
    by : (o : Ordering) → length (insert_record r rs) ≤ suc (length rs) → length (by_order o (r ∷ s ∷ rs) (r ∷ rs) (s ∷ insert_record r rs)) ≤ suc (suc (length rs))
    by Less h = omega arith
    by Equal h = omega arith
    by Greater h = omega arith

as_many : (rs done : List DumpRecord) → length (fold (λ sorted r. insert_record r sorted) done rs) ≤ length done + length rs
as_many [] done = omega arith
as_many (r ∷ rs) done = omega (arith, as_many rs (insert_record r done), one_more r done)

-- there are no more files than records
no_more : (records : List DumpRecord) → length (files_of records) ≤ length records
no_more records =
    let sorted = in_path_order records in
    let within : length sorted ≤ length records = omega (arith, as_many records []) in
    subst (λ n. n ≤ length records) (sym (length-map sorted (λ r. (r.path, node_of (has_below sorted r.path) r)))) within

pub loaded_sound : (records : List DumpRecord) → length records ≤ max_files → IsSoundTree (record { files = files_of records; loaded = true })
loaded_sound records within = record {
  order = files_in_order records;
  few = omega (arith, no_more records);
  unloaded = λ h. absurd (true_is_not_false h);
  placed = loaded_placed (in_path_order records) (in_path_order records);
}
  where
    true_is_not_false : true ≡ false → ⊥
    true_is_not_false e = cc
