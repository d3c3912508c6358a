-- Edits of nodes by their numbers, as edits of files.
use Rattle.std.proofs.Common.{◌≡◌, ◌≢◌, Bool, true, cond, List, [], ◌∷◌, Some, Result, Ok, Err, refl, sym, ap, subst, ◌∙◌}
use Rattle.acl_edit.specs.declared.edit.EditFault.{EditFault}
use Rattle.acl_edit.specs.declared.node.Node.{Node}
use Rattle.acl_names.specs.Paths.{PathOf, path_cmp}
use Rattle.acl_names.proofs.Basics.{all_filter}
use Rattle.path_map.specs.Entries.{IsInOrder}
use Rattle.kinds.specs.declared.edit.Stop.{Stop}
use Rattle.kinds.specs.declared.edit.Stop.TheVariants as stops
use Rattle.kinds.specs.Kinds.{KindsOf}
use Rattle.kinds.specs.Inner.{AreAmong}
use Rattle.kinds.specs.Memo as by_kind
use Rattle.kinds.specs.Memo.{ArePut}
use Rattle.kinds.specs.Numbered.{Numbers, Kept, entries_by, entries_in, AreUsed, AreSound}
use Rattle.kinds.specs.Stops.{IsFaultOf}
use Rattle.kinds.proofs.Chosen.{among_all, in_order-filter, entries_filter, used_filter}
use Rattle.std.specs.FinMap.{find}
use Rattle.acl_tree.specs.declared.edit.FileFault.{FileFault}
use Rattle.acl_tree.specs.declared.edit.FileFault.TheVariants.{Edit, NoMemory}
use Rattle.path_map.specs.Merged.{put_all}
use Rattle.acl_tree.specs.Files.{Files, Recorded}
use Rattle.acl_tree.specs.Sound.{IsSoundTree}
use Rattle.acl_tree.specs.Operands.{is_file, edit_files, files_meant}
use Rattle.acl_tree.specs.Edits.{OneEdit, KeepsPlaces, of_each, and_others, edit_each, edit_all, with_edits}
use Rattle.acl_tree.proofs.Kept.{edited_sound}
use Rattle.acl_tree.proofs.Edits.{keeps_after, put_edits}
use Rattle.acl_tree.specs.Inner.{node_after, fault_of}
use Rattle.acl_text.specs.Results.{◌>>=◌}

-- ---- edits and faults

abbrev pub as_edits : Result Files (PathOf × EditFault) → Result Files FileFault
as_edits (Ok es) = Ok es
as_edits (Err fault) = Err (Edit fault.0 fault.1)

pub edits_as : (edit : OneEdit) (es : Files) → edit_each (of_each edit) es ≡ as_edits (by_kind.edit_each edit es)
edits_as edit [] = refl
edits_as edit (e ∷ es) = ap (and_others e.0 (edit e.1)) (edits_as edit es) ∙ by (edit e.1) (by_kind.edit_each edit es)
  where
    by : (o : Result Node EditFault) (r : Result Files (PathOf × EditFault)) → and_others e.0 o (as_edits r) ≡ as_edits (by_kind.and_others e.0 o r)
    by (Err fault) r = refl
    by (Ok n) (Err fault) = refl
    by (Ok n) (Ok es) = refl

pub stops_as : (edit : OneEdit) (es : Files) (stop : Stop (PathOf × EditFault)) → IsFaultOf stop (by_kind.edit_each edit es) → fault_of stop ≢ NoMemory
    → edit_each (of_each edit) es ≡ Err (fault_of stop)
stops_as edit es (stops.Fault fault) is some = edits_as edit es ∙ ap as_edits is
stops_as edit es stops.NoMemory is some = absurd (some refl)

-- ---- the files of a command, edited by their numbers

module _ (edit : OneEdit) (recursive : Bool) (paths : List PathOf) (k0 : KindsOf Node) (ns : Numbers) (t : Recorded) (sound : AreSound k0 ns) (is : entries_by k0 ns ≡ t.files)
    (olds : Numbers) (meant : olds ≡ files_meant recursive paths ns) where
  seen_files : entries_by k0 olds ≡ files_meant recursive paths t.files
  seen_files = ap (entries_by k0) meant ∙ entries_filter k0 (is_file recursive paths) ns sound.used ∙ ap (λ (es : Files). files_meant recursive paths es) is

  pub asked_order : IsInOrder olds
  asked_order = subst (λ (l : Numbers). IsInOrder l) (sym meant) (in_order-filter (is_file recursive paths) ns sound.order)

  pub asked_among : AreAmong ns olds
  asked_among = subst (λ (l : Numbers). AreAmong ns l) (sym meant) (all_filter (λ e. find path_cmp e.0 ns ≡ Some e.1) (λ e. is_file recursive paths e.0) ns (among_all ns sound.order))

  pub asked_used : AreUsed k0 olds
  asked_used = subst (λ (l : Numbers). AreUsed k0 l) (sym meant) (used_filter k0 (is_file recursive paths) ns sound.used)

  pub stops_for : (stop : Stop (PathOf × EditFault)) → IsFaultOf stop (by_kind.edit_each edit (entries_by k0 olds)) → fault_of stop ≢ NoMemory
      → edit_all (of_each edit) recursive paths t ≡ Err (fault_of stop)
  stops_for stop h some = ap (λ r. r >>= with_edits t) (ap (λ es. edit_each (of_each edit) es) (sym seen_files) ∙ stops_as edit (entries_by k0 olds) stop h some)

  module _ (new : Kept Node) (puts : Numbers) (made : by_kind.edit_each edit (entries_by k0 olds) ≡ Ok (entries_by new.0 puts)) (put : ArePut (k0, ns) new puts) (order : IsInOrder t.files) where
    abbrev test : PathOf → Bool
    test = is_file recursive paths

    abbrev after : PathOf → Node → Node
    after = node_after (of_each edit)

    each : edit_each (of_each edit) (files_meant recursive paths t.files) ≡ Ok (entries_by new.0 puts)
    each = ap (λ es. edit_each (of_each edit) es) (sym seen_files) ∙ edits_as edit (entries_by k0 olds) ∙ ap as_edits made

    put_among : entries_in new ≡ put_all (entries_by new.0 puts) t.files
    put_among = put.put ∙ ap (put_all (entries_by new.0 puts)) is

    edited_are : entries_in new ≡ edit_files test after t.files
    edited_are = put_among ∙ put_edits (of_each edit) recursive paths t.files (entries_by new.0 puts) order each

    pub edited_all : edit_all (of_each edit) recursive paths t ≡ Ok (record { files = entries_in new; loaded = t.loaded })
    edited_all = ap (λ r. r >>= with_edits t) each ∙ ap (λ (es : Files). let u : Recorded = record { files = es; loaded = t.loaded } in Ok u) (sym put_among)

    pub sound_edited : KeepsPlaces (of_each edit) → IsSoundTree t → IsSoundTree (record { files = entries_in new; loaded = t.loaded })
    sound_edited keeps sound = subst (λ (es : Files). IsSoundTree (record { files = es; loaded = t.loaded })) (sym edited_are) (edited_sound test after (keeps_after (of_each edit) keeps) t sound)

-- ---- all files

-- a region that means each path means them all
pub all_meant : {V : Type 0} (recursive : Bool) (paths : List PathOf) → ((q : PathOf) → is_file recursive paths q ≡ true) → (es : List (PathOf × V)) → es ≡ files_meant recursive paths es
all_meant recursive paths each [] = refl
all_meant recursive paths each (e ∷ es) =
    ap (λ l. e ∷ l) (all_meant recursive paths each es) ∙ sym (ap (λ b. cond b (e ∷ files_meant recursive paths es) (files_meant recursive paths es)) (each e.0))
