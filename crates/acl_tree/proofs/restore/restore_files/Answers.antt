use Rattle.std.proofs.Common.{◌≡◌, false, None, Ok, List, map, sym, ap, subst, ◌∙◌}
use Rattle.std.specs.Prelude.{option_map}
use Rattle.std.proofs.lemmas.Result.{err_from_is_err_and}
use Rattle.acl_text.specs.OwnPaths.{have_own_paths}
use Rattle.acl_text.specs.declared.record.DumpRecord.{DumpRecord}
use Rattle.acl_text.specs.Results.{◌>>=◌, unless, map_err}
use Rattle.path_map.specs.Merged.{put_all}
use Rattle.kinds.specs.Numbered.{entries_in}
use Rattle.acl_edit.specs.declared.node.Node.{Node}
use Rattle.acl_tree.specs.Loading.{record_at}
use Rattle.std.specs.FinMap.{find}
use Rattle.acl_names.specs.Paths.{path_cmp, PathOf}
use Rattle.acl_tree.specs.Files.{Files, Recorded}
use Rattle.acl_tree.specs.Sound.{IsSoundTree}
use Rattle.acl_tree.specs.Edits.{KeepsPlace, edit_each, edit_all, with_edits, file_fault}
use Rattle.acl_tree.specs.Inner.{RestoredFile, SomeEdited, restore_each, node_after, paths_in}
use Rattle.acl_tree.specs.Operands.{is_file, edit_files, files_meant, first_missing}
use Rattle.acl_tree.specs.Restoring.{edit_of, restore_one, paths_of}
use Rattle.acl_tree.proofs.Kept.{edited_sound}
use Rattle.acl_tree.proofs.Edits.{keeps_after, put_edits}
use Rattle.acl_tree.proofs.Left.{each_some, put_some, in_order-some_meant}
use Rattle.acl_tree.proofs.Placed.{restore_keeps}
use Rattle.acl_tree.proofs.Restored.{AreByRecord, are_by_record, some_by_record, restored_are, fault_reported, untouched}
use Rattle.acl_tree.specs.declared.fault.TreeFault.TheVariants.{NoSuchFile}
use Rattle.acl_tree.proofs.restore.restore_files.Goals as goal

pub in_path_order-sorted-requires : goal.in_path_order-sorted-requires
in_path_order-sorted-requires c =
    ap (λ rs. have_own_paths rs) (c.in_ok-found.ensures.found.records ∙ c.as_slice.ensures.all) ∙ c.as_slice.ensures.apart

pub finish-requires : goal.finish-requires
finish-requires c =
    let t : Files = c.args.tree.now.files in
    let records : List DumpRecord = c.args.records.now in
    let xs : List RestoredFile = c.deref.result.now in
    let edit = restore_one records in
    let test = is_file false (paths_of records) in
    let meant : Files = files_meant false (paths_of records) t in
    let are : AreByRecord t records xs =
    are_by_record t records _ c.in_ok-found.found.items c.in_path_order-sorted.result.items xs c.soundness_law.ensures.order c.in_ok-found.ensures.found
    c.as_slice.ensures.all c.in_path_order-sorted.ensures.order c.in_path_order-sorted.ensures.same c.deref.ensures.value
    in
    let ns : Files = c.in_ok-made.made.0.1 in
    let some : SomeEdited (λ e. e) (λ e. edit e.0 e.1) meant ns = some_by_record t records xs ns are c.in_ok-made.ensures.made in
    in_order-some_meant edit test t ns c.soundness_law.ensures.order some

pub of-restored-requires : goal.of-restored-requires
of-restored-requires c =
    let t : Files = c.args.tree.now.files in
    let records : List DumpRecord = c.args.records.now in
    let xs : List RestoredFile = c.deref.result.now in
    let edit = restore_one records in
    let test = is_file false (paths_of records) in
    let meant : Files = files_meant false (paths_of records) t in
    let are : AreByRecord t records xs =
    are_by_record t records _ c.in_ok-found.found.items c.in_path_order-sorted.result.items xs c.soundness_law.ensures.order c.in_ok-found.ensures.found
    c.as_slice.ensures.all c.in_path_order-sorted.ensures.order c.in_path_order-sorted.ensures.same c.deref.ensures.value
    in
    let ns : Files = c.in_ok-made.made.0.1 in
    let some : SomeEdited (λ e. e) (λ e. edit e.0 e.1) meant ns = some_by_record t records xs ns are c.in_ok-made.ensures.made in
    let new : entries_in c.in_ok-by_path.by_path ≡ edit_files test (node_after edit) t =
    c.in_ok-by_path.ensures ∙ ap (put_all ns) (c.in_ok-made.ensures.before ∙ c.files_by_path.ensures.all) ∙ put_some edit test t ns c.soundness_law.ensures.order some
    in
    let keeps : (p : PathOf) (n m : Node) → restore_one records p n ≡ Ok m → KeepsPlace n m = λ p. restore_keeps (option_map edit_of (record_at p records)) in
    subst (λ (t : Recorded). IsSoundTree t) (λ i. record { files = sym new i; loaded = sym c.is_loaded.ensures i })
    (edited_sound test (node_after edit) (keeps_after edit keeps) c.args.tree.now c.soundness_law.ensures)

pub returns-clause-restored : goal.returns-clause-restored
returns-clause-restored c =
    let t : Files = c.args.tree.now.files in
    let records : List DumpRecord = c.args.records.now in
    let xs : List RestoredFile = c.deref.result.now in
    let edit = restore_one records in
    let test = is_file false (paths_of records) in
    let meant : Files = files_meant false (paths_of records) t in
    let are : AreByRecord t records xs =
    are_by_record t records _ c.in_ok-found.found.items c.in_path_order-sorted.result.items xs c.soundness_law.ensures.order c.in_ok-found.ensures.found
    c.as_slice.ensures.all c.in_path_order-sorted.ensures.order c.in_path_order-sorted.ensures.same c.deref.ensures.value
    in
    let ns : Files = c.in_ok-made.made.0.1 in
    let some : SomeEdited (λ e. e) (λ e. edit e.0 e.1) meant ns = some_by_record t records xs ns are c.in_ok-made.ensures.made in
    let all_after : Files = map (λ e. (e.0, node_after edit e.0 e.1)) meant in
    let each : edit_each edit meant ≡ Ok all_after = each_some edit meant ns some in
    let new : entries_in c.in_ok-by_path.by_path ≡ put_all all_after t =
    c.in_ok-by_path.ensures ∙ ap (put_all ns) (c.in_ok-made.ensures.before ∙ c.files_by_path.ensures.all) ∙ put_some edit test t ns c.soundness_law.ensures.order some
    ∙ sym (put_edits edit false (paths_of records) t all_after c.soundness_law.ensures.order each)
    in
    let there : first_missing (paths_of records) t ≡ None = ap (λ rs. first_missing (paths_of rs) t) (sym c.as_slice.ensures.all) ∙ c.in_ok-found.ensures.there in
    ap (λ missing. unless (option_map NoSuchFile missing) (map_err file_fault (edit_all edit false (paths_of records) c.args.tree.now))) there
    ∙ ap (λ r. unless (option_map NoSuchFile None) (map_err file_fault (r >>= with_edits c.args.tree.now))) each
    ∙ ap (λ (t : Recorded). Ok t) (sym (c.of-restored.ensures ∙ (λ i. record { files = new i; loaded = c.is_loaded.ensures i })))

pub returns-in_err-made-clause-restored : goal.returns-in_err-made-clause-restored
returns-in_err-made-clause-restored c =
    let t : Files = c.args.tree.now.files in
    let records : List DumpRecord = c.args.records.now in
    let xs : List RestoredFile = c.deref.result.now in
    let edit = restore_one records in
    let test = is_file false (paths_of records) in
    let meant : Files = files_meant false (paths_of records) t in
    let are : AreByRecord t records xs =
    are_by_record t records _ c.in_ok-found.found.items c.in_path_order-sorted.result.items xs c.soundness_law.ensures.order c.in_ok-found.ensures.found
    c.as_slice.ensures.all c.in_path_order-sorted.ensures.order c.in_path_order-sorted.ensures.same c.deref.ensures.value
    in
    let there : first_missing (paths_of records) t ≡ None = ap (λ rs. first_missing (paths_of rs) t) (sym c.as_slice.ensures.all) ∙ c.in_ok-found.ensures.there in
    let each : restore_each xs ≡ edit_each edit meant = restored_are edit xs are.are_restored ∙ ap (λ es. edit_each edit es) are.are_meant in
    let p = err_from_is_err_and c.from_residual-in_err-made.result c.from_residual-in_err-made.ensures.1 in
    rw (p.1, p.2) (fault_reported records c.args.tree.now c.in_err-made.field-0.0 there (λ some. ap (λ r. r >>= with_edits c.args.tree.now) (sym each ∙ c.in_err-made.ensures.refused some)))

pub returns-clause-others : goal.returns-clause-others
returns-clause-others c = λ p out.
    let t : Files = c.args.tree.now.files in
    let records : List DumpRecord = c.args.records.now in
    let xs : List RestoredFile = c.deref.result.now in
    let are : AreByRecord t records xs =
    are_by_record t records _ c.in_ok-found.found.items c.in_path_order-sorted.result.items xs c.soundness_law.ensures.order c.in_ok-found.ensures.found
    c.as_slice.ensures.all c.in_path_order-sorted.ensures.order c.in_path_order-sorted.ensures.same c.deref.ensures.value
    in
    let ns : Files = c.in_ok-made.made.0.1 in
    let some : SomeEdited (λ e. e) (λ e. restore_one records e.0 e.1) (files_meant false (paths_of records) t) ns = some_by_record t records xs ns are c.in_ok-made.ensures.made in
    let order = in_order-some_meant (restore_one records) (is_file false (paths_of records)) t ns c.soundness_law.ensures.order some in
    let outside : is_file false (paths_in ns) p ≡ false = ap (λ ps. is_file false ps p) c.in_ok-made.ensures.touched ∙ sym (c.new.ensures p) ∙ out in
    ap (λ (s : Recorded). find path_cmp p s.files) c.of-restored.ensures
    ∙ ap (find path_cmp p) (c.in_ok-by_path.ensures ∙ ap (put_all ns) (c.in_ok-made.ensures.before ∙ c.files_by_path.ensures.all))
    ∙ untouched p ns t order outside
