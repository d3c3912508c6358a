-- Edits of the files of a command.
use Rattle.std.specs.Prelude.{◌≡◌, List, [], ◌∷◌, Bool, Result, Ok, Err}
use Rattle.acl_edit.specs.Nodes as nodes
use Rattle.acl_edit.specs.declared.edit.EditFault.{EditFault}
use Rattle.acl_edit.specs.declared.node.Node.{Node}
use Rattle.path_map.specs.Merged.{put_all}
use Rattle.acl_tree.specs.declared.edit.FileFault.{FileFault}
use Rattle.acl_tree.specs.declared.edit.FileFault.TheVariants as of_files
use Rattle.acl_tree.specs.declared.fault.TreeFault.{TreeFault}
use Rattle.acl_tree.specs.declared.fault.TreeFault.TheVariants as faults
use Rattle.acl_names.specs.Paths.{PathOf}
use Rattle.acl_text.specs.Results.{◌>>=◌}
use Rattle.acl_tree.specs.Files.{Files, Recorded}
use Rattle.acl_tree.specs.Operands.{files_meant}

-- a directory stays a directory, and only directories have default lists
pub record KeepsPlace (old new : Node) : Type 0 where
  pub kind : new.kind ≡ old.kind
  pub default : nodes.IsSound old → nodes.IsSound new

-- an edit of files, each by its path and its node
abbrev pub FileEdit : Type 0
FileEdit = PathOf → Node → Result Node EditFault

-- an edit of nodes, and as one of files: no path decides what becomes of a node
abbrev pub OneEdit : Type 0
OneEdit = Node → Result Node EditFault

abbrev pub of_each : OneEdit → FileEdit
of_each edit p n = edit n

-- the edit leaves each file what its place in a tree asks for
abbrev pub KeepsPlaces : FileEdit → Type 0
KeepsPlaces edit = (p : PathOf) (n m : Node) → edit p n ≡ Ok m → KeepsPlace n m

-- one file edited, before others
abbrev pub and_others : PathOf → Result Node EditFault → Result Files FileFault → Result Files FileFault
and_others p (Err fault) others = Err (of_files.Edit p fault)
and_others p (Ok n) (Err fault) = Err fault
and_others p (Ok n) (Ok es) = Ok ((p, n) ∷ es)

-- each file edited, or the first fault with its path
abbrev pub edit_each : FileEdit → Files → Result Files FileFault
edit_each edit [] = Ok []
edit_each edit (e ∷ es) = and_others e.0 (edit e.0 e.1) (edit_each edit es)

abbrev pub with_edits : Recorded → Files → Result Recorded FileFault
with_edits t es = Ok (record t { files = put_all es t.files })

-- the tree with the files of a command edited, or the first fault in path order
abbrev pub edit_all : FileEdit → Bool → List PathOf → Recorded → Result Recorded FileFault
edit_all edit recursive paths t = edit_each edit (files_meant recursive paths t.files) >>= with_edits t

-- ---- as faults of a command

-- the fault of a file is the command's
abbrev pub file_fault : FileFault → TreeFault
file_fault (of_files.Edit p fault) = faults.Edit p fault
file_fault of_files.NoMemory = faults.NoMemory
