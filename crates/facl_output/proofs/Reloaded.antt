-- What is printed of all files is loaded as these files.
use Rattle.std.proofs.Common.{◌≡◌, ℕ, suc, ◌+◌, ◌≤◌, Bool, true, false, not, cond, ◌&&◌, ◌||◌, List, [], ◌∷◌, ◌++◌, length, map, Option, Some, None, Result, Ok}
use Rattle.std.proofs.Common.{Err, refl, sym, ap, subst, ◌∙◌, append_assoc, arith, nat_lt}
use Rattle.std.specs.Prelude.{filter, is_some, unwrap_or, ◌==◌}
use Rattle.std.specs.List.{list_any, AllByRecursion}
use Rattle.std.specs.Ordering.{is_eq}
use Rattle.std.proofs.lemmas.Cmp.{tied_itself}
use Rattle.acl_entry.specs.Lists.{KeyMap}
use Rattle.acl_names.specs.Paths.{path_cmp, PathOf}
use Rattle.acl_names.proofs.PathOrder.{path_total}
use Rattle.acl_edit.specs.Nodes as nodes
use Rattle.acl_edit.specs.declared.node.Kind.{Kind}
use Rattle.acl_edit.specs.declared.node.Kind.TheVariants.{Plain, Directory}
use Rattle.acl_edit.specs.declared.node.Node.{Node}
use Rattle.acl_people.specs.KnownPeople.{KnownPeople, naming_of}
use Rattle.acl_text.specs.declared.record.DumpRecord.{DumpRecord}
use Rattle.acl_text.specs.declared.record.DumpUse.{DumpUse}
use Rattle.acl_text.specs.declared.record.DumpUse.TheVariants.{Load, Restore}
use Rattle.acl_text.specs.DumpWriting.{record_text}
use Rattle.acl_text.specs.RoundTrips.{AreApart, AreFlags, IsReadable, HasHeaders, paths, placed, dump_text, line_count}
use Rattle.acl_text.proofs.WrittenRecords.{dump_again}
use Rattle.acl_tree.specs.declared.fault.TreeFault.{TreeFault}
use Rattle.acl_tree.specs.declared.fault.TreeFault.TheVariants.{TooMany}
use Rattle.acl_text.specs.Naming.{Naming}
use Rattle.acl_tree.specs.Files.{Files, no_files}
use Rattle.path_map.specs.Entries.{IsInOrder}
use Rattle.acl_names.specs.Below.{is_above}
use Rattle.acl_tree.specs.Loading.{node_of, has_below, as_files, files_of}
use Rattle.acl_tree.specs.Operands.{is_file}
use Rattle.path_map.specs.Below.{holds_below}
use Rattle.acl_tree.specs.Sound.{IsPlaced, ArePlaced}
use Rattle.acl_tree.specs.Found.{FoundFile, found_in, files_found}
use Rattle.acl_tree.specs.State.{State}
use Rattle.acl_tree.specs.Loads.{with_records}
use Rattle.facl_output.specs.Listings.{listing, plain, has_slash, flags_shown}
use Rattle.facl_output.specs.RoundTrips.{IsReadAgain, IsLoadedAs, listing_of, all_paths_listing, root_listing}
use Rattle.facl_output.proofs.Rising.{Rising, paths_of, rising, apart, in_order_already}

-- the record that is printed of a file
abbrev pub record_of : FoundFile → DumpRecord
record_of f = record {
  at = 0;
  path = f.path;
  slash = has_slash f;
  owner = Some f.node.label.owner;
  group = Some f.node.label.group;
  flags =
      flags_shown f.node.flags;
  access = f.node.label.acl;
  dacl = f.node.dacl;
}

abbrev pub found : Files → PathOf × Node → FoundFile
found all e = record { path = e.0; node = e.1; has_below = holds_below all e.0 }

abbrev pub records_of : Files → Files → List DumpRecord
records_of all es = map record_of (found_in all es)

-- ---- the text

pub printed : (naming : Naming) (fs : List FoundFile) → listing naming plain fs ≡ dump_text naming (map record_of fs)
printed naming [] = refl
printed naming (f ∷ fs) = ap (λ (l : List ℕ). record_text naming (record_of f) ++ l) (printed naming fs)

-- ---- all paths as operands

meant_itself : (pre : Files) (e : PathOf × Node) (es : Files) → is_file false (paths_of (pre ++ e ∷ es)) e.0 ≡ true
meant_itself [] e es = ap (λ o. is_eq o || is_file false (paths_of es) e.0) (tied_itself path_total e.0)
meant_itself (d ∷ pre) e es = ap (λ b. is_eq (path_cmp e.0 d.0) || b) (meant_itself pre e es) ∙ either (is_eq (path_cmp e.0 d.0))
  where
    either : (b : Bool) → (b || true) ≡ true
    either true = refl
    either false = refl

all_meant : (pre es : Files) → filter (λ e. is_file false (paths_of (pre ++ es)) e.0) es ≡ es
all_meant pre [] = refl
all_meant pre (e ∷ es) =
    let moved : pre ++ e ∷ es ≡ (pre ++ e ∷ []) ++ es = sym (append_assoc pre (e ∷ []) es) in
    let test : Files → PathOf × Node → Bool = λ all d. is_file false (paths_of all) d.0 in
    ap (λ b. cond b (e ∷ filter (test (pre ++ e ∷ es)) es) (filter (test (pre ++ e ∷ es)) es)) (meant_itself pre e es)
    ∙ ap (λ (l : Files). e ∷ l) (ap (λ (all : Files). filter (test all) es) moved ∙ all_meant (pre ++ e ∷ []) es)

found_all : (es : Files) → files_found false (paths_of es) es ≡ found_in es es
found_all es = ap (λ l. found_in es l) (all_meant [] es)

all_below_root : (es : Files) → filter (λ e. is_file true ([] ∷ []) e.0) es ≡ es
all_below_root [] = refl
all_below_root (e ∷ es) = ap (λ (l : Files). e ∷ l) (all_below_root es)

found_root : (es : Files) → files_found true ([] ∷ []) es ≡ found_in es es
found_root es = ap (λ l. found_in es l) (all_below_root es)

-- ---- one file

pub flags_again : (flags : List Bool) → length flags ≡ 3 → unwrap_or (flags_shown flags) (false ∷ false ∷ false ∷ []) ≡ flags
flags_again [] three = absurd (omega arith)
flags_again (a ∷ []) three = absurd (omega arith)
flags_again (a ∷ b ∷ []) three = absurd (omega arith)
flags_again (true ∷ b ∷ c ∷ []) three = refl
flags_again (false ∷ true ∷ c ∷ []) three = refl
flags_again (false ∷ false ∷ true ∷ []) three = refl
flags_again (false ∷ false ∷ false ∷ []) three = refl
flags_again (a ∷ b ∷ c ∷ d ∷ more) three = absurd (omega arith)

three_flags : (flags : List Bool) → length flags ≡ 3 → AreFlags (flags_shown flags)
three_flags flags three = elim (list_any (λ flag. flag) flags) as (λ b. AreFlags (cond b (Some flags) None)) [ true ↦ three | false ↦ tt ]

kind_again : (k : Kind) (shown_text : Bool) → (shown_text ≡ true → k ≡ Directory) → cond ((nodes.is_directory k && not shown_text) || shown_text) Directory Plain ≡ k
kind_again Plain true h = sym (h refl)
kind_again Plain false h = refl
kind_again Directory true h = refl
kind_again Directory false h = refl

-- what shows a directory without a final `/` is right
shown_rightly : (k : Kind) (root below : Bool) (dacl : Option KeyMap) → ((root || below) ≡ true → k ≡ Directory) → (k ≡ Plain → dacl ≡ None) → (root || (is_some dacl || below)) ≡ true → k ≡ Directory
shown_rightly Directory root below dacl placed default shown_text = refl
shown_rightly Plain true below dacl placed default shown_text = placed refl
shown_rightly Plain false true dacl placed default shown_text = placed refl
shown_rightly Plain false false dacl placed default shown_text = absurd (cc (ap (λ (o : Option KeyMap). is_some o || false) (default refl), shown_text))

node_again : (all : Files) (e : PathOf × Node) (at : ℕ) → IsPlaced all e → length e.1.flags ≡ 3 → node_of (holds_below all e.0) (record (record_of (found all e)) { at = at }) ≡ e.1
node_again all e at is three =
    let n = e.1 in
    let below = holds_below all e.0 in
    let root = length e.0 == 0 in
    ap (λ (k : Kind). let m : Node = record { kind = k; label = n.label; flags = unwrap_or (flags_shown n.flags) (false ∷ false ∷ false ∷ []); dacl = n.dacl } in m)
    (kind_again n.kind (root || (is_some n.dacl || below)) (shown_rightly n.kind root below n.dacl is.directory is.default))
    ∙ ap (λ (flags : List Bool). let m : Node = record { kind = n.kind; label = n.label; flags = flags; dacl = n.dacl } in m) (flags_again n.flags three)

-- ---- all files

files_again : (known : KnownPeople) (all : Files) (records : List DumpRecord) → ((p : PathOf) → has_below records p ≡ holds_below all p)
    → (at : ℕ) (es : Files) → ArePlaced all es → AllByRecursion (IsReadAgain known) es
    → as_files records (placed at (records_of all es)) ≡ es
files_again known all records same at [] are again = refl
files_again known all records same at (e ∷ es) are again =
    let r : DumpRecord = record (record_of (found all e)) { at = at } in
    let others = as_files records (placed (at + line_count (record_of (found all e))) (records_of all es)) in
    ap (λ (b : Bool). let f : PathOf × Node = (e.0, node_of b r) in f ∷ others) (same e.0)
    ∙ (ap (λ (n : Node). let f : PathOf × Node = (e.0, n) in f ∷ others) (node_again all e at are.0 again.0.flags)
    ∙ ap (λ (l : Files). e ∷ l) (files_again known all records same (at + line_count (record_of (found all e))) es are.1 again.1))

below_same : (all es : Files) (at : ℕ) (p : PathOf) → has_below (placed at (records_of all es)) p ≡ holds_below es p
below_same all [] at p = refl
below_same all (e ∷ es) at p = ap (λ b. is_above p e.0 || b) (below_same all es (at + line_count (record_of (found all e))) p)

paths_placed : (all es : Files) (at : ℕ) → paths (placed at (records_of all es)) ≡ paths_of es
paths_placed all [] at = refl
paths_placed all (e ∷ es) at = ap (λ (l : List PathOf). e.0 ∷ l) (paths_placed all es (at + line_count (record_of (found all e))))

pub paths_same : (all es : Files) → paths (records_of all es) ≡ paths_of es
paths_same all [] = refl
paths_same all (e ∷ es) = ap (λ (l : List PathOf). e.0 ∷ l) (paths_same all es)

as_many : (all es : Files) (at : ℕ) → length (placed at (records_of all es)) ≡ length es
as_many all [] at = refl
as_many all (e ∷ es) at = ap suc (as_many all es (at + line_count (record_of (found all e))))

headers_printed : (dump_use : DumpUse) (f : FoundFile) → HasHeaders dump_use (record_of f)
headers_printed Load f = (refl, refl)
headers_printed Restore f = tt

pub readable : (dump_use : DumpUse) (known : KnownPeople) (all es : Files) → AllByRecursion (IsReadAgain known) es → AllByRecursion (IsReadable (naming_of known) dump_use) (records_of all es)
readable dump_use known all [] again = tt
readable dump_use known all (e ∷ es) again = (
  record {
    path = again.0.path;
    headers = headers_printed dump_use (found all e);
    owner = again.0.owner;
    group = again.0.group;
    flags =
        three_flags e.1.flags again.0.flags;
    access = again.0.access;
    dacl = again.0.dacl;
  },
  readable dump_use known all es again.1,
)

few : (n : ℕ) → n ≤ 1048576 → nat_lt 1048576 n ≡ false
few n h = grind arith

-- what is printed of all files is loaded as these files
module _ (known : KnownPeople) (es : Files) (order : IsInOrder es) (are : ArePlaced es es) (again : AllByRecursion (IsReadAgain known) es) (within : length es ≤ 1048576) where
  dump_loaded : IsLoadedAs known (dump_text (naming_of known) (records_of es es)) es
  dump_loaded =
      let empty : State = record { tree = no_files; people = known } in
      let after : Files → Result State TreeFault = λ files. Ok (record { tree = record { files = files; loaded = true }; people = known }) in
      let rs = records_of es es in
      let read = placed 1 rs in
      let rises = rising es order in
      let files : files_of read ≡ es =
      ap (λ (l : List DumpRecord). as_files l l) (in_order_already read (subst (λ ps. Rising [] ps) (sym (paths_placed es es 1)) rises)) ∙ files_again known es read (below_same es es 1) 1 es are again
      in
      ap (with_records empty)
      (dump_again Load (naming_of known) rs (readable Load known es es again)
      (subst (λ ps. AreApart [] ps) (sym (paths_same es es)) (apart [] (paths_of es) rises)))
      ∙ (ap (λ b. cond b (Err TooMany) (after (files_of read))) (few (length read) (subst (λ n. n ≤ 1048576) (sym (as_many es es 1)) within))
      ∙ ap after files)

  listing_loaded : (fs : List FoundFile) → fs ≡ found_in es es → IsLoadedAs known (listing_of known fs) es
  listing_loaded fs is =
      subst (λ text. IsLoadedAs known text es)
      (sym (ap (listing_of known) is ∙ printed (naming_of known) (found_in es es))) dump_loaded

  pub all_paths_loaded : IsLoadedAs known (all_paths_listing known es) es
  all_paths_loaded = listing_loaded (files_found false (paths_of es) es) (found_all es)

  pub root_loaded : IsLoadedAs known (root_listing known es) es
  root_loaded = listing_loaded (files_found true ([] ∷ []) es) (found_root es)
