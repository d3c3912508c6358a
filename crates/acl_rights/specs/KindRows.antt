-- For each file its label, and its row of verdicts.
use Rattle.std.specs.Prelude.{◌≡◌, ◌<◌, ◌≤◌, ◌+◌, ℕ, Bool, true, ◌++◌, ◌&&◌, nat_lt, List, [], ◌∷◌, Option, Some, map, length, slice_get, slice_set, if◌then◌else◌}
use Rattle.std.specs.Borrow.{Bor}
use Rattle.std.specs.declared.rc.Rc.{Rc}
use Rattle.std.specs.List.{remove, AllByRecursion}
use Rattle.acl_names.specs.Paths.{PathOf}
use Rattle.path_map.specs.Merged.{has, put_all}
use Rattle.kinds.specs.Kinds.{node_at, count_at}
use Rattle.kinds.specs.Numbered.{Kept, Numbers, entries_in}
use Rattle.kinds.specs.Placed.{IsOfEntry}
use Rattle.acl_entry.specs.Mentions.{mentions, meets}
use Rattle.acl_entry.specs.Person.{Person}
use Rattle.acl_entry.specs.declared.label.Label.{Label}
use Rattle.acl_edit.specs.declared.node.Node.{Node}
use Rattle.acl_tree.specs.Files.{Files}
use Rattle.path_classes.specs.declared.label_row.LabelRow.{LabelRow}
use Rattle.path_classes.specs.KindRows.{RowedPaths}
use Rattle.path_classes.specs.ClassedRows.{paths_of}
use Rattle.acl_rights.specs.Rows.{Verdict, row_of}

-- a label with what each user may do
abbrev pub label_row : Verdict → List Person → Label → LabelRow
label_row V us l = record { label = l; row = row_of V us l }

-- that of a node
abbrev pub node_row : Verdict → List Person → Node → LabelRow
node_row V us n = label_row V us n.label

-- those of files
abbrev pub rowed : Verdict → List Person → Files → RowedPaths
rowed V us fs = map (λ e. (e.0, label_row V us e.1.label)) fs

-- those of paths with labels
abbrev pub rowed_labels : Verdict → List Person → List (PathOf × Label) → RowedPaths
rowed_labels V us ls = map (λ e. (e.0, label_row V us e.1)) ls

-- each label and row changed
abbrev pub each_row : (LabelRow → LabelRow) → RowedPaths → RowedPaths
each_row f es = map (λ e. (e.0, f e.1)) es

-- a row with one user more, the last
abbrev pub with_last : Verdict → Person → LabelRow → LabelRow
with_last V u r = record { label = r.label; row = r.row ++ V u r.label ∷ [] }

-- a row without the user at `at`, if it is that long
abbrev pub without_at : ℕ → LabelRow → LabelRow
without_at at r = record { label = r.label; row = if nat_lt at (length r.row) then remove r.row at else r.row }

-- whether a label mentions one of some groups
abbrev pub mentions_any : List ℕ → LabelRow → Bool
mentions_any groups r = meets (mentions r.label) groups

-- a row where a user is judged again if the label mentions one of `groups`, and the row is that long
abbrev pub with_again : Verdict → ℕ → Person → List ℕ → LabelRow → LabelRow
with_again V at u groups r =
    if mentions_any groups r && nat_lt at (length r.row)
    then record { label = r.label; row = slice_set r.row at (V u r.label) }
    else r

-- a row where a user is judged again, if it is that long
abbrev pub asked_again : Verdict → ℕ → Person → LabelRow → LabelRow
asked_again V at u r = if nat_lt at (length r.row) then record { label = r.label; row = slice_set r.row at (V u r.label) } else r

-- the row of each path is that of its label
abbrev pub AreRowsOf : Verdict → List Person → RowedPaths → Type 0
AreRowsOf V us es = AllByRecursion (λ e. e.1.row ≡ row_of V us e.1.label) es

-- ---- labels that differ; for inner functions

-- a number has a row with this label, which is that of an entry
abbrev pub HasLabel : Label → ℕ → Kept LabelRow → Type 0
HasLabel l n kept = (x : LabelRow) × ((node_at kept.0 n ≡ Some x) × (IsOfEntry x (entries_in kept) × (x.label ≡ l)))

abbrev pub some_row : Verdict → List Person → Label → Option LabelRow
some_row V us l = Some (label_row V us l)

-- a borrowed path with a borrowed label
abbrev pub with_label : Bor PathOf × Bor Label → PathOf × Label
with_label e = (e.0.now, e.1.now)

-- the labels that are borrowed
abbrev pub borrowed_labels : List (Bor Label) → List Label
borrowed_labels ls = map (λ l. l.now) ls

-- the labels of paths, by places of a list
abbrev pub labels_at : List Label → List (PathOf × ℕ) → List (PathOf × Option Label)
labels_at ls es = map (λ e. (e.0, slice_get ls e.1)) es

-- some paths with their labels
abbrev pub some_labels : List (PathOf × Label) → List (PathOf × Option Label)
some_labels ls = map (λ e. (e.0, Some e.1)) ls

-- a label is at a place: it was there, or was added
pub record IsPlaced (l : Label) (old new : List Label) (at : ℕ) : Type 0 where
  pub here : slice_get new at ≡ Some l
  pub kept : (n : ℕ) (m : Label) → slice_get old n ≡ Some m → slice_get new n ≡ Some m
  pub few : length new ≤ length old + 1

-- labels and for each path the place of its label
pub record ArePlaced (paths : List (PathOf × Label)) (ls : List Label) (es : List (PathOf × ℕ)) : Type 0 where
  pub are : labels_at ls es ≡ some_labels paths
  pub few : length ls ≤ length paths

-- rows after some paths got labels: each of these has a number, and a number that a path has keeps its row
pub record PutsLabels (old : Kept LabelRow) (labels : List (PathOf × Label)) (new : Kept LabelRow) : Type 0 where
  pub puts : Numbers
  pub paths : paths_of puts ≡ paths_of labels
  pub numbers : new.1 ≡ put_all puts old.1
  pub nodes : (n : ℕ) (x : LabelRow) → node_at old.0 n ≡ Some x → 0 < count_at new.0 n → node_at new.0 n ≡ Some x

-- the root, which has a row, is the first of some paths with labels, and no path is gone
pub record BeginWithRoot {W : Type 0} (es : RowedPaths) (labels : List (PathOf × Label)) (gone : List (PathOf × W)) : Type 0 where
  pub label : Label
  pub others : List (PathOf × Label)
  pub first : labels ≡ ([], label) ∷ others
  pub there : has [] es ≡ true
  pub none : gone ≡ []

-- rows and files that are as many have the same paths
abbrev pub AsManyAreSame : RowedPaths → Files → Type 0
AsManyAreSame es fs = length es ≡ length fs → paths_of es ≡ paths_of fs

-- ---- rows that are known; for inner functions

-- rows that are shared
abbrev pub shared_rows : {Z : Type 0} → List (Rc LabelRow Z) → List LabelRow
shared_rows rs = map (λ r. r.value) rs

-- each is that of an entry
abbrev pub AreOfEntries : List LabelRow → RowedPaths → Type 0
AreOfEntries rs es = AllByRecursion (λ r. IsOfEntry r es) rs

-- each is that of its label
abbrev pub AreRows : Verdict → List Person → List LabelRow → Type 0
AreRows V us rs = AllByRecursion (λ r. r.row ≡ row_of V us r.label) rs

-- a row is one of some, and has this label
abbrev pub IsAmongRows : Label → LabelRow → List LabelRow → Type 0
IsAmongRows l r rs = ((at : ℕ) × (slice_get rs at ≡ Some r)) × (r.label ≡ l)
