-- What is printed of files is restored as these files.
use Rattle.std.proofs.Common.{◌≡◌, ℕ, ◌+◌, Bool, true, false, cond, List, [], ◌∷◌, filter, Ok, refl, sym, ap, subst, ◌∙◌}
use Rattle.std.specs.List.{AllByRecursion}
use Rattle.acl_text.specs.declared.record.DumpRecord.{DumpRecord}
use Rattle.acl_text.specs.declared.record.DumpUse.TheVariants.{Restore}
use Rattle.acl_text.specs.RoundTrips.{AreApart, IsReadable, paths, placed, dump_text, line_count}
use Rattle.acl_text.specs.Records.{dump_of}
use Rattle.acl_edit.specs.declared.node.Node.{Node}
use Rattle.acl_people.specs.KnownPeople.{KnownPeople, naming_of}
use Rattle.path_map.proofs.Differences.{Leads, leads_all}
use Rattle.path_map.proofs.Rows.{in_order-filter}
use Rattle.acl_tree.specs.declared.command.Command.TheVariants as commands
use Rattle.acl_names.specs.Paths.{PathOf}
use Rattle.acl_tree.specs.Files.{Files}
use Rattle.path_map.specs.Entries.{IsInOrder}
use Rattle.acl_tree.specs.Found.{found_in, files_found}
use Rattle.acl_tree.specs.Laws.{IsAsRecorded}
use Rattle.acl_tree.specs.Operands.{is_file, files_meant}
use Rattle.acl_tree.specs.State.{State}
use Rattle.acl_tree.specs.Step.{step}
use Rattle.facl_output.specs.RoundTrips.{IsReadAgain, listing_of, IsRestoredAsItIs}
use Rattle.facl_output.proofs.Reloaded.{record_of, found, records_of, printed, flags_again, paths_same, readable}
use Rattle.facl_output.proofs.Rising.{paths_of, rising, apart}

module _ (test : PathOf × Node → Bool) where
  all_left : (P : PathOf × Node → Type 0) (es : Files) → AllByRecursion P es → AllByRecursion P (filter test es)
  all_left P [] all = tt
  all_left P (e ∷ es) all = elim (test e) as (λ b. AllByRecursion P (cond b (e ∷ filter test es) (filter test es))) [
    | true ↦ (all.0, all_left P es all.1)
    | false ↦ all_left P es all.1
  ]

  leads_left : (all es : Files) → Leads all es → Leads all (filter test es)
  leads_left all [] h = tt
  leads_left all (e ∷ es) h = elim (test e) as (λ b. Leads all (cond b (e ∷ filter test es) (filter test es))) [
    | true ↦ (h.0, leads_left all es h.1)
    | false ↦ leads_left all es h.1
  ]

-- each record that is printed contains what its file is
as_recorded : (known : KnownPeople) (all es : Files) (at : ℕ) → Leads all es → AllByRecursion (IsReadAgain known) es → AllByRecursion (IsAsRecorded all) (placed at (records_of all es))
as_recorded known all [] at leads again = tt
as_recorded known all (e ∷ es) at leads again = (
  record { node = e.1; recorded = leads.0; contains = record { access = refl; default = refl; owner = refl; group = refl; flags = flags_again e.1.flags again.0.flags } },
  as_recorded known all es (at + line_count (record_of (found all e))) leads.1 again.1,
)

module _ (state : State) (recursive : Bool) (operands : List PathOf) (order : IsInOrder state.tree.files) (again : AllByRecursion (IsReadAgain state.people) state.tree.files) where
  abbrev known : KnownPeople
  known = state.people

  abbrev all : Files
  all = state.tree.files

  abbrev meant : Files
  meant = files_meant recursive operands all

  meant_again : AllByRecursion (IsReadAgain known) meant
  meant_again = all_left (λ e. is_file recursive operands e.0) (IsReadAgain known) all again

  -- records are read again as they are printed, and a restore of records that contain what their files are changes
  -- nothing
  pub restored_again :
      (AllByRecursion (IsReadable (naming_of known) Restore) (records_of all meant) → AreApart [] (paths (records_of all meant))
      → dump_of (naming_of known) Restore (dump_text (naming_of known) (records_of all meant)) ≡ Ok (placed 1 (records_of all meant)))
      → ((records : List DumpRecord) → AllByRecursion (IsAsRecorded all) records → step state (commands.Restore records) ≡ Ok state)
      → IsRestoredAsItIs state (listing_of known (files_found recursive operands all))
  restored_again read same =
      let rs = records_of all meant in
      let rises = rising meant (in_order-filter (λ e. is_file recursive operands e.0) all order) in
      record {
        records = placed 1 rs;
        read =
            ap (λ text. dump_of (naming_of known) Restore text) (printed (naming_of known) (found_in all meant))
            ∙ read (readable Restore known all meant meant_again) (subst (λ ps. AreApart [] ps) (sym (paths_same all meant)) (apart [] (paths_of meant) rises));
        same = same (placed 1 rs) (as_recorded known all meant 1 (leads_left (λ e. is_file recursive operands e.0) all all (leads_all all order)) meant_again);
      }
