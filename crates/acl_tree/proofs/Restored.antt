-- Files restored from records: each record's file, found by search and sorted by path, is a file of the command.
use Rattle.std.proofs.Common.{◌≡◌, ◌≢◌, ℕ, zero, suc, ◌+◌, ◌<◌, arith, length, get_or, Bool, true, false, cond, ◌&&◌, ◌||◌, IsTrue, List, [], ◌∷◌, map, Option}
use Rattle.std.proofs.Common.{Some, None, Result, Ok, Err, is_some, if◌then◌else◌, Ordering, Less, Equal, Greater, refl, sym, ap, subst, ◌∙◌, true≢false}
use Rattle.std.specs.Prelude.{option_map}
use Rattle.std.specs.Option.{option_or}
use Rattle.std.specs.Ordering.{is_eq, is_lt, eq_by_cmp}
use Rattle.std.specs.List.{All, AllByRecursion}
use Rattle.std.specs.List.Sorted.{IsPermutation, IsSortedBy}
use Rattle.std.specs.FinMap.{find, is_sorted}
use Rattle.std.specs.FinMap.Entries.{below_all, find-where_key, same_entries}
use Rattle.std.proofs.lemmas.List.Elements.{recursion_from_All}
use Rattle.std.proofs.lemmas.List.Sorted.{All-permutation}
use Rattle.acl_names.specs.Paths.{path_cmp, PathOf}
use Rattle.acl_names.proofs.PathOrder.{path_total, exact_paths}
use Rattle.acl_names.proofs.Basics.{err_is_not_ok, to_T}
use Rattle.acl_text.specs.declared.record.DumpRecord.{DumpRecord}
use Rattle.acl_text.specs.Results.{unless, map_err}
use Rattle.acl_edit.specs.declared.edit.EditFault.{EditFault}
use Rattle.acl_edit.specs.declared.node.Node.{Node}
use Rattle.path_map.specs.Entries.{IsInOrder}
use Rattle.path_map.proofs.Differences.{Leads, leads_all}
use Rattle.path_map.specs.Merged.{put_all}
use Rattle.path_map.proofs.Rows.{in_order-filter, find_put_all}
use Rattle.acl_tree.specs.Loading.{in_path_order, record_at}
use Rattle.acl_tree.proofs.Loaded.{seen, in_order-records}
use Rattle.acl_tree.proofs.Mapped.{found}
use Rattle.acl_tree.specs.declared.fault.TreeFault.TheVariants as faults
use Rattle.acl_tree.specs.declared.edit.FileFault.{FileFault}
use Rattle.acl_tree.specs.declared.edit.FileFault.TheVariants as of_files
use Rattle.acl_tree.specs.Files.{Files, Recorded}
use Rattle.acl_tree.specs.Operands.{is_file, files_meant, first_missing}
use Rattle.acl_tree.specs.Edits.{and_others, edit_each, edit_all, file_fault}
use Rattle.acl_tree.specs.Restoring.{edit_of, edit_if_some, restore_one, paths_of, restored_tree}
use Rattle.acl_tree.specs.Inner.{AreFilesOf, RestoredFile, IsFileOf, SomeEdited, restored_by, restored, restore_each, paths_in}
use Rattle.acl_tree.proofs.Left.{by_path}

-- ---- sorted by the paths of their records

abbrev Rises : {A : Type 0} → (A → A → Bool) → List A → Type 0
Rises {A} lt xs = (k : ℕ) (d : A) → suc k < length xs → lt (get_or xs (suc k) d) (get_or xs k d) ≡ false

map_rises : {A B : Type 0} (f : A → B) (lt : B → B → Bool) (xs : List A) → Rises (λ x y. lt (f x) (f y)) xs → Rises lt (map f xs)
map_rises f lt [] h k d w = absurd (omega (arith, w))
map_rises f lt (x ∷ []) h k d w = absurd (omega (arith, w))
map_rises f lt (x ∷ y ∷ xs) h zero d w = h 0 x (omega arith)
map_rises f lt (x ∷ y ∷ xs) h (suc k) d w = map_rises f lt (y ∷ xs) (λ j e v. h (suc j) e (omega (arith, v))) k d (omega (arith, w))

pub sorted_map : {A B : Type 0} (f : A → B) (lt : B → B → Bool) (xs : List A) → IsSortedBy (λ x y. lt (f x) (f y)) xs → IsSortedBy lt (map f xs)
sorted_map f lt xs h k d low within =
    let next : suc k ≡ k + 1 = omega arith in
    subst (λ n. lt (get_or (map f xs) n d) (get_or (map f xs) k d) ≡ false) next
    (map_rises f lt xs (λ j e v. subst (λ n. lt (f (get_or xs n e)) (f (get_or xs j e)) ≡ false) (sym (omega arith)) (h j e (omega arith) (omega (arith, v)))) k d (omega (arith, within)))

-- ---- the files of the command

abbrev by_record : List RestoredFile → List (PathOf × DumpRecord)
by_record xs = map (λ x. (x.1.path, x.1)) xs

by_records : (xs : List RestoredFile) → by_record xs ≡ seen (λ r. r) (map (λ x. x.1) xs)
by_records [] = refl
by_records (x ∷ xs) = ap (λ l. (x.1.path, x.1) ∷ l) (by_records xs)

-- whether a path is that of a record
named : (p : PathOf) (records : List DumpRecord) → is_file false (paths_of records) p ≡ is_some (record_at p records)
named p [] = refl
named p (r ∷ rs) = by (record_at p rs) (eq_by_cmp path_cmp p r.path) (named p rs)
  where
    by : (o : Option DumpRecord) (b : Bool) → is_file false (paths_of rs) p ≡ is_some o → (b || is_file false (paths_of rs) p) ≡ is_some (option_or o (if b then Some r else None))
    by (Some s) true rest = refl
    by (Some s) false rest = rest
    by None true rest = refl
    by None false rest = rest

abbrev if_named : Option DumpRecord → Option Node → Option Node
if_named None o = None
if_named (Some r) o = o

module _ (t : Files) where
  below_files : (p : PathOf) (xs : List RestoredFile) → AllByRecursion (IsFileOf t) xs → below_all path_cmp p (map (λ x. x.0) xs) ≡ below_all path_cmp p (by_record xs)
  below_files p [] all = refl
  below_files p (x ∷ xs) all = (λ i. is_lt (path_cmp p (all.0.0 i)) && below_files p xs all.1 i)

  order_files : (xs : List RestoredFile) → AllByRecursion (IsFileOf t) xs → is_sorted path_cmp (map (λ x. x.0) xs) ≡ is_sorted path_cmp (by_record xs)
  order_files [] all = refl
  order_files (x ∷ xs) all =
      (λ i. below_all path_cmp (all.0.0 i) (map (λ x. x.0) xs) && order_files xs all.1 i)
      ∙ ap (λ b. b && is_sorted path_cmp (by_record xs)) (below_files x.1.path xs all.1)

  found_files : (p : PathOf) (xs : List RestoredFile) → AllByRecursion (IsFileOf t) xs → find path_cmp p (map (λ x. x.0) xs) ≡ if_named (find path_cmp p (by_record xs)) (find path_cmp p t)
  found_files p [] all = refl
  found_files p (x ∷ xs) all =
      ap (λ q. cond (eq_by_cmp path_cmp p q) (Some x.0.1) (find path_cmp p (map (λ x. x.0) xs))) all.0.0
      ∙ by (path_cmp p x.1.path) refl (found_files p xs all.1)
    where
      by : (o : Ordering) → path_cmp p x.1.path ≡ o → find path_cmp p (map (λ x. x.0) xs) ≡ if_named (find path_cmp p (by_record xs)) (find path_cmp p t)
          → cond (is_eq o) (Some x.0.1) (find path_cmp p (map (λ x. x.0) xs)) ≡ if_named (cond (is_eq o) (Some x.1) (find path_cmp p (by_record xs))) (find path_cmp p t)
      by Less is rest = rest
      by Equal is rest = sym all.0.1 ∙ ap (λ q. find path_cmp q t) (sym (exact_paths p x.1.path is))
      by Greater is rest = rest

abbrev value_or : DumpRecord → Option DumpRecord → DumpRecord
value_or d None = d
value_or d (Some r) = r

module _ (t : Files) (records : List DumpRecord) (xs : List RestoredFile) (order : IsInOrder t) (sorted : map (λ x. x.1) xs ≡ in_path_order records) (all : All (IsFileOf t) xs) where
  each : AllByRecursion (IsFileOf t) xs
  each = recursion_from_All (IsFileOf t) xs all

  entries_are : by_record xs ≡ seen (λ r. r) (in_path_order records)
  entries_are = by_records xs ∙ ap (λ rs. seen (λ r. r) rs) sorted

  in_order : IsInOrder (by_record xs)
  in_order = subst (λ (es : List (PathOf × DumpRecord)). IsTrue (is_sorted path_cmp es)) (sym entries_are) (in_order-records (λ r. r) records)

  same_option : (o : Option DumpRecord) → option_map (λ r. r) o ≡ o
  same_option None = refl
  same_option (Some r) = refl

  record_found : (p : PathOf) → find path_cmp p (by_record xs) ≡ record_at p records
  record_found p = ap (λ es. find path_cmp p es) entries_are ∙ found (λ r. r) p records ∙ same_option (record_at p records)

  meant : (p : PathOf) → find path_cmp p (files_meant false (paths_of records) t) ≡ if_named (record_at p records) (find path_cmp p t)
  meant p =
      find-where_key path_cmp (is_file false (paths_of records)) p (λ x is. ap (is_file false (paths_of records)) (sym (exact_paths p x is))) t
      ∙ ap (λ b. cond b (find path_cmp p t) None) (named p records)
      ∙ by (record_at p records)
    where
      by : (o : Option DumpRecord) → cond (is_some o) (find path_cmp p t) None ≡ if_named o (find path_cmp p t)
      by None = refl
      by (Some r) = refl

  meant_order : IsInOrder (files_meant false (paths_of records) t)
  meant_order = in_order-filter (λ e. is_file false (paths_of records) e.0) t order

  -- they are the files of the command
  pub files_are : map (λ x. x.0) xs ≡ files_meant false (paths_of records) t
  files_are =
      same_entries path_cmp path_total exact_paths (map (λ x. x.0) xs) (files_meant false (paths_of records) t)
      (to_T _ (order_files t xs each ∙ in_order))
      (to_T _ meant_order)
      (λ p. found_files t p xs each ∙ ap (λ o. if_named o (find path_cmp p t)) (record_found p) ∙ sym (meant p))

  -- and each is restored by its record
  edit_is : (x : RestoredFile) → x.0.0 ≡ x.1.path → find path_cmp x.1.path (by_record xs) ≡ Some x.1 → restore_one records x.0.0 x.0.1 ≡ restored x
  edit_is x same leads =
      ap (λ p. edit_if_some (option_map edit_of (record_at p records)) x.0.1) same
      ∙ ap (λ o. edit_if_some (option_map edit_of o) x.0.1) (sym (record_found x.1.path) ∙ leads)

  edits_are : (ys : List RestoredFile) → AllByRecursion (IsFileOf t) ys → Leads (by_record xs) (by_record ys) → AllByRecursion (λ x. restore_one records x.0.0 x.0.1 ≡ restored x) ys
  edits_are [] files leads = tt
  edits_are (y ∷ ys) files leads = (edit_is y files.0.0 leads.0, edits_are ys files.1 leads.1)

  pub each_by_record : AllByRecursion (λ x. restore_one records x.0.0 x.0.1 ≡ restored x) xs
  each_by_record = edits_are xs each (leads_all (by_record xs) in_order)

-- what is known of the files of records once they are in path order: they are the files of the command, and each is restored by its record
pub record AreByRecord (t : Files) (records : List DumpRecord) (xs : List RestoredFile) : Type 0 where
  pub are_meant : map (λ x. x.0) xs ≡ files_meant false (paths_of records) t
  pub are_restored : AllByRecursion (λ x. restore_one records x.0.0 x.0.1 ≡ restored x) xs

pub are_by_record : (t : Files) (records asked : List DumpRecord) (found sorted xs : List RestoredFile) → IsInOrder t → AreFilesOf t asked found → asked ≡ records
    → map (λ x. x.1) sorted ≡ in_path_order (map (λ x. x.1) found) → IsPermutation found sorted → xs ≡ sorted → AreByRecord t records xs
are_by_record t records asked found sorted xs order are same in_order shuffled listed =
    let ordered : map (λ x. x.1) xs ≡ in_path_order records =
    ap (λ l. map (λ x. x.1) l) listed ∙ in_order ∙ ap (λ rs. in_path_order rs) (are.records ∙ same) in
    let all : All (IsFileOf t) xs = subst (λ l. All (IsFileOf t) l) (sym listed) (All-permutation (IsFileOf t) found sorted shuffled are.files) in
    record { are_meant = files_are t records xs order ordered all; are_restored = each_by_record t records xs order ordered all }

-- what is put of them
pub some_by_record : (t : Files) (records : List DumpRecord) (xs : List RestoredFile) (ns : Files) → AreByRecord t records xs → SomeEdited (λ x. x.0) restored xs ns
    → SomeEdited (λ e. e) (λ e. restore_one records e.0 e.1) (files_meant false (paths_of records) t) ns
some_by_record t records xs ns are made =
    subst (λ es. SomeEdited (λ e. e) (λ e. restore_one records e.0 e.1) es ns) are.are_meant (by_path (λ x. x.0) restored (restore_one records) xs ns are.are_restored made)

module _ (edit : PathOf → Node → Result Node EditFault) where
  pub restored_are : (xs : List RestoredFile) → AllByRecursion (λ x. edit x.0.0 x.0.1 ≡ restored x) xs → restore_each xs ≡ edit_each edit (map (λ x. x.0) xs)
  restored_are [] all = refl
  restored_are (x ∷ xs) all = (λ i. and_others x.0.0 (sym all.0 i) (restored_are xs all.1 i))

-- a file that is refused is the first fault of those that begin with it
pub refused_first : (x : RestoredFile) (e : PathOf × Node) (rest : List RestoredFile) (fault : FileFault) → e ≡ x.0 → edit_each (λ p n. restored_by x.1 n) (e ∷ []) ≡ Err fault
    → restore_each (x ∷ rest) ≡ Err fault
refused_first x e rest fault is refused = by (restored x) (subst (λ (e : PathOf × Node). edit_each (λ p n. restored_by x.1 n) (e ∷ []) ≡ Err fault) is refused)
  where
    by : (r : Result Node EditFault) → and_others x.0.0 r (Ok []) ≡ Err fault → and_others x.0.0 r (restore_each rest) ≡ Err fault
    by (Ok n) h = absurd (err_is_not_ok _ _ (sym h))
    by (Err f) h = h

-- a path that is not among those of files has none of them
absent : (p : PathOf) (es : Files) → is_file false (paths_in es) p ≡ false → find path_cmp p es ≡ None
absent p [] out = refl
absent p (e ∷ es) out = by (eq_by_cmp path_cmp p e.0) (absent p es) out
  where
    by : (b : Bool) → (is_file false (paths_in es) p ≡ false → find path_cmp p es ≡ None) → (b || is_file false (paths_in es) p) ≡ false → cond b (Some e.1) (find path_cmp p es) ≡ None
    by true rest out = absurd (true≢false out)
    by false rest out = rest out

-- no other file is touched than those that are put
pub untouched : (p : PathOf) (puts t : Files) → IsInOrder puts → is_file false (paths_in puts) p ≡ false → find path_cmp p (put_all puts t) ≡ find path_cmp p t
untouched p puts t order out = find_put_all p puts t order ∙ ap (λ o. option_or o (find path_cmp p t)) (absent p puts out)

-- a fault of a file is the restore's, where no path is missing
pub fault_reported : (records : List DumpRecord) (t : Recorded) (fault : FileFault) → first_missing (paths_of records) t.files ≡ None
    → (fault ≢ of_files.NoMemory → edit_all (restore_one records) false (paths_of records) t ≡ Err fault)
    → file_fault fault ≢ faults.NoMemory → restored_tree records t ≡ Err (file_fault fault)
fault_reported records t (of_files.Edit p f) there reported some =
    ap (λ o. unless (option_map faults.NoSuchFile o) (map_err file_fault (edit_all (restore_one records) false (paths_of records) t))) there
    ∙ ap (λ r. unless (option_map faults.NoSuchFile None) (map_err file_fault r)) (reported (λ e. cc))
fault_reported records t of_files.NoMemory there reported some = absurd (some refl)
