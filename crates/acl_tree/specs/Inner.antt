-- For inner functions and their callers' proofs. Few public contracts name one of these definitions.
use Rattle.std.specs.Prelude.{◌≡◌, ◌≢◌, ⊤, ℕ, List, Option, Some, None, map, [], ◌∷◌, ◌++◌, Bool, true, false, Result, Ok, Err}
use Rattle.std.specs.Coded.{Coded, coded×, coded_ℕ, coded_list}
use Rattle.std.specs.FinMap.{find}
use Rattle.std.specs.List.{All}
use Rattle.std.specs.declared.cmp.Ordering.TheVariants.{Greater}
use Rattle.acl_names.specs.Paths.{path_cmp, PathOf}
use Rattle.acl_text.specs.declared.record.DumpRecord.{DumpRecord}
use Rattle.acl_text.specs.contracts.record.DumpRecord as record_contracts
use Rattle.acl_edit.specs.Edits.{edit}
use Rattle.acl_edit.specs.declared.edit.EditFault.{EditFault}
use Rattle.acl_edit.specs.declared.node.Node.{Node}
use Rattle.acl_edit.specs.contracts.node.Node as node_contracts
use Rattle.acl_tree.specs.declared.edit.FileFault.{FileFault}
use Rattle.acl_tree.specs.declared.edit.FileFault.TheVariants.{Edit, NoMemory}
use Rattle.kinds.specs.Numbered.{Numbers}
use Rattle.kinds.specs.declared.edit.Stop.{Stop}
use Rattle.kinds.specs.declared.edit.Stop.TheVariants as stops
use Rattle.acl_names.specs.Below.{is_above}
use Rattle.acl_tree.specs.Files.{Files}
use Rattle.acl_tree.specs.Loading.{node_of}
use Rattle.acl_tree.specs.Edits.{FileEdit, and_others, edit_each}
use Rattle.acl_tree.specs.Restoring.{edit_of}

-- ---- the files of records

-- whether the first of the records that follow is below a path
abbrev pub next_below : PathOf → List DumpRecord → Bool
next_below p [] = false
next_below p (r ∷ rs) = is_above p r.path

-- the files of records in path order, each by the one that follows it
abbrev pub files_from : List DumpRecord → Files
files_from [] = []
files_from (r ∷ rs) = (r.path, node_of (next_below r.path rs) r) ∷ files_from rs

-- whether the first of the files that follow is below a path
abbrev pub next_file_below : {V : Type 0} → PathOf → List (PathOf × V) → Bool
next_file_below p [] = false
next_file_below p (e ∷ es) = is_above p e.0

-- ---- operands in path order

-- none of them is before a path
abbrev pub NoneBefore : PathOf → List PathOf → Type 0
NoneBefore p [] = ⊤
NoneBefore p (q ∷ qs) = (path_cmp p q ≢ Greater) × NoneBefore p qs

-- no path is before an earlier one
abbrev pub Ascend : List PathOf → Type 0
Ascend [] = ⊤
Ascend (p ∷ ps) = NoneBefore p ps × Ascend ps

-- ---- a walk over the entries that operands mean

-- an entry is taken: those after it are left
pub record IsTaken (e : PathOf × ℕ) (old new : Numbers) : Type 0 where
  pub before : Numbers
  pub joined : old ≡ before ++ e ∷ new

-- of the entries that are still to come, first those that are meant, and then all: the first that is meant is taken, if
-- there is one
abbrev pub TakesFirst : Numbers × Numbers → Option (PathOf × ℕ) → Numbers × Numbers → Type 0
TakesFirst old None new = (old.0 ≡ []) × (new.0 ≡ [])
TakesFirst old (Some e) new = (old.0 ≡ e ∷ new.0) × IsTaken e old.1 new.1

-- ---- edits

-- the node after an edit that succeeds
abbrev pub ok_or : Node → Result Node EditFault → Node
ok_or n (Ok m) = m
ok_or n (Err fault) = n

abbrev pub node_after : FileEdit → PathOf → Node → Node
node_after edit p n = ok_or n (edit p n)

-- files edited, before others
abbrev pub after_edits : Files → Result Files FileFault → Result Files FileFault
after_edits edits (Ok es) = Ok (edits ++ es)
after_edits edits (Err fault) = Err fault

-- a call edits a file's node, or returns its fault with its path, unless memory ran out
abbrev pub EditsOne : FileEdit → PathOf × Node → Result Node FileFault → Type 0
EditsOne edit e (Ok n) = edit e.0 e.1 ≡ Ok n
EditsOne edit e (Err fault) = fault ≢ NoMemory → edit_each edit (e ∷ []) ≡ Err fault

-- why an edit of nodes by their numbers stops, as the fault of the files
abbrev pub fault_of : Stop (PathOf × EditFault) → FileFault
fault_of (stops.Fault fault) = Edit fault.0 fault.1
fault_of stops.NoMemory = NoMemory

-- ---- restored files

-- a file, and the record that it is restored from
abbrev pub RestoredFile : Type 0
RestoredFile = (PathOf × Node) × DumpRecord

abbrev pub coded_restored : Coded RestoredFile
coded_restored = coded× (coded× (coded_list (coded_list coded_ℕ)) node_contracts.the_row.coded) record_contracts.the_row.coded

-- it is the file of the record's path
abbrev pub IsFileOf : Files → RestoredFile → Type 0
IsFileOf t x = (x.0.0 ≡ x.1.path) × (find path_cmp x.1.path t ≡ Some x.0.1)

-- these are the files of records, in their order
pub record AreFilesOf (t : Files) (rs : List DumpRecord) (xs : List RestoredFile) : Type 0 where
  pub records : map (λ x. x.1) xs ≡ rs
  pub files : All (IsFileOf t) xs

-- a node restored from a record: this is not a recursion
abbrev pub restored_by : DumpRecord → Node → Result Node EditFault
restored_by r n = edit n (edit_of r) false

-- the file's node after the restore
abbrev pub restored : RestoredFile → Result Node EditFault
restored x = restored_by x.1 x.0.1

-- each file restored, or the first fault with its path
abbrev pub restore_each : List RestoredFile → Result Files FileFault
restore_each [] = Ok []
restore_each (x ∷ xs) = and_others x.0.0 (restored x) (restore_each xs)

-- one of two, where it is the first or not
abbrev pub OneOf : Bool → Type 0 → Type 0 → Type 0
OneOf true a b = a
OneOf false a b = b

pub record Either (a b : Type 0) : Type 0 where
  pub first : Bool
  pub is : OneOf first a b

-- files edited, of which those that stay as they are may be left out
abbrev pub SomeEdited : {A : Type 0} → (A → PathOf × Node) → (A → Result Node EditFault) → List A → Files → Type 0
SomeEdited file edit [] [] = ⊤
SomeEdited file edit [] (k ∷ ks) = ⊥
SomeEdited file edit (x ∷ xs) [] = (edit x ≡ Ok (file x).1) × SomeEdited file edit xs []
SomeEdited file edit (x ∷ xs) (k ∷ ks) = Either ((((file x).0 ≡ k.0) × (edit x ≡ Ok k.1)) × SomeEdited file edit xs ks) ((edit x ≡ Ok (file x).1) × SomeEdited file edit xs (k ∷ ks))

-- the paths of files
abbrev pub paths_in : Files → List PathOf
paths_in es = map (λ e. e.0) es

-- a file with its edited node is put after others, or left out where it stays as it is
abbrev pub PutsOrLeaves : Files → PathOf × Node → Node → Files → Type 0
PutsOrLeaves before e n after = Either (after ≡ before ++ (e.0, n) ∷ []) ((after ≡ before) × (e.1 ≡ n))

-- so it is with a file that is restored
pub record IsPutOrLeft (x : RestoredFile) (before after : Files) : Type 0 where
  pub node : Node
  pub made : restored x ≡ Ok node
  pub puts : PutsOrLeaves before x.0 node after
