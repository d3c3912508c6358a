-- setfacl(1) and chacl(1): the operands and, with `-R`, the files below them, edited.
use Rattle.std.specs.Prelude.{List, Bool, option_map, Result}
use Rattle.acl_edit.specs.Edits as edits
use Rattle.acl_edit.specs.declared.edit.Edit.{Edit}
use Rattle.acl_edit.specs.declared.edit.EditFault.{EditFault}
use Rattle.acl_edit.specs.declared.node.Node.{Node}
use Rattle.acl_text.specs.Results.{map_err, unless}
use Rattle.acl_tree.specs.declared.fault.TreeFault.{TreeFault}
use Rattle.acl_tree.specs.declared.fault.TreeFault.TheVariants.{NoSuchFile}
use Rattle.acl_names.specs.Paths.{PathOf}
use Rattle.acl_tree.specs.Files.{Files, Recorded}
use Rattle.acl_tree.specs.Operands.{first_missing}
use Rattle.acl_tree.specs.Edits.{edit_all, file_fault}
use Rattle.acl_tree.specs.declared.fault.TreeFault.TheVariants as faults
use Rattle.acl_tree.specs.Causes.{IsAmong, IsEditRefused, IsMissing}

-- one file of the command: in a recursion, default entries skip files that are not directories
abbrev pub edit_one : Edit → Bool → PathOf → Node → Result Node EditFault
edit_one e recursive p n = edits.edit n e recursive

-- the tree after the edit, or the first fault: of the operands from left to right, then of the files in path order
abbrev pub edited_tree : Bool → List PathOf → Edit → Recorded → Result Recorded TreeFault
edited_tree recursive paths e t =
    unless (option_map NoSuchFile (first_missing paths t.files)) (map_err file_fault (edit_all (edit_one e recursive) recursive paths t))

-- which faults apply, whatever other ones do
abbrev pub Applies : Bool → List PathOf → Edit → Files → TreeFault → Type 0
Applies recursive paths e t (faults.NoSuchFile p) = IsAmong paths p × IsMissing t p
Applies recursive paths e t (faults.Edit p fault) = IsEditRefused (edit_one e recursive) recursive paths t p fault
Applies recursive paths e t fault = ⊥
