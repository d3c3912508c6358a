-- setfacl(1) --restore: files get the lists and flags of their records, and the owner and group that these name.
use Rattle.std.specs.Prelude.{List, Option, Some, None, Result, Ok, option_map, map, false}
use Rattle.acl_text.specs.declared.record.DumpRecord.{DumpRecord}
use Rattle.acl_edit.specs.Edits.{edit}
use Rattle.acl_edit.specs.declared.edit.Edit.{Edit}
use Rattle.acl_edit.specs.declared.edit.Edit.TheVariants.{Restore}
use Rattle.acl_edit.specs.declared.edit.EditFault.{EditFault}
use Rattle.acl_edit.specs.declared.node.Node.{Node}
use Rattle.acl_text.specs.Results.{map_err, unless}
use Rattle.acl_tree.specs.declared.fault.TreeFault.{TreeFault}
use Rattle.acl_tree.specs.declared.fault.TreeFault.TheVariants.{NoSuchFile}
use Rattle.acl_names.specs.Paths.{PathOf}
use Rattle.acl_tree.specs.Files.{Files, Recorded}
use Rattle.acl_tree.specs.Operands.{first_missing}
use Rattle.acl_tree.specs.Loading.{record_at}
use Rattle.acl_tree.specs.Edits.{edit_all, file_fault}
use Rattle.acl_tree.specs.declared.fault.TreeFault.TheVariants as faults
use Rattle.acl_tree.specs.Causes.{IsAmong, IsEditRefused, IsMissing}

-- the edit of a record's file
abbrev pub edit_of : DumpRecord → Edit
edit_of r = Restore r.access r.dacl r.owner r.group r.flags

-- a default list for a file that is not a directory is refused: this is not a recursion
abbrev pub edit_if_some : Option Edit → Node → Result Node EditFault
edit_if_some None n = Ok n
edit_if_some (Some e) n = edit n e false

-- one file, by the record of its path
abbrev pub restore_one : List DumpRecord → PathOf → Node → Result Node EditFault
restore_one records p n = edit_if_some (option_map edit_of (record_at p records)) n

abbrev pub paths_of : List DumpRecord → List PathOf
paths_of records = map (λ r. r.path) records

-- the tree after the records are restored, or the first fault: of the records from left to right, one whose path is not
-- recorded, then of the files in path order
abbrev pub restored_tree : List DumpRecord → Recorded → Result Recorded TreeFault
restored_tree records t =
    unless (option_map NoSuchFile (first_missing (paths_of records) t.files)) (map_err file_fault (edit_all (restore_one records) false (paths_of records) t))

-- which faults apply, whatever other ones do
abbrev pub Applies : List DumpRecord → Files → TreeFault → Type 0
Applies records t (faults.NoSuchFile p) = IsAmong (paths_of records) p × IsMissing t p
Applies records t (faults.Edit p fault) = IsEditRefused (restore_one records) false (paths_of records) t p fault
Applies records t fault = ⊥
