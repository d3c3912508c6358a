-- The messages of the faults of lists, texts and commands. That memory ran out is none of them: it is
-- lifted to the line or the run before, and has a text here since each fault has one.
use Rattle.std.specs.Prelude.{ℕ, Bool, true, false, ◌&&◌, ◌==◌, List, ◌++◌, codes, decimal, if◌then◌else◌}
use Rattle.acl_entry.specs.declared.entry.ListFault.{ListFault}
use Rattle.acl_entry.specs.declared.entry.ListFault.TheVariants as lists
use Rattle.acl_edit.specs.declared.edit.EditFault.{EditFault}
use Rattle.acl_edit.specs.declared.edit.EditFault.TheVariants as edits
use Rattle.acl_names.specs.Names.{escaped}
use Rattle.acl_names.specs.Paths.{path_text}
use Rattle.acl_text.specs.declared.entries.Form.TheVariants.{Long}
use Rattle.acl_text.specs.declared.fault.FaultKind.{FaultKind}
use Rattle.acl_text.specs.declared.fault.FaultKind.TheVariants as kinds
use Rattle.acl_text.specs.declared.fault.TextFault.{TextFault}
use Rattle.acl_text.specs.declared.fault.Which.{Which}
use Rattle.acl_text.specs.declared.fault.Which.TheVariants.{Access, Default}
use Rattle.acl_text.specs.Writing.{tag_text}
use Rattle.acl_tree.specs.declared.fault.TreeFault.{TreeFault}
use Rattle.acl_tree.specs.declared.fault.TreeFault.TheVariants as trees
use Rattle.facl_output.specs.declared.fault.Source.{Source}
use Rattle.facl_output.specs.declared.fault.Source.TheVariants.{Entry, DefaultEntry, TextLine, AttributeEntry, Operand}

-- ---- lists

abbrev pub list_text : ListFault → List ℕ
list_text (lists.Repeated at) = codes "entry " ++ decimal at ++ codes " is repeated"
list_text (lists.MissingBase key) = tag_text Long key ++ codes ":: missing"
list_text (lists.MissingMask at) = codes "entry " ++ decimal at ++ codes " needs a mask"
list_text lists.TooLong = codes "too many entries"
list_text lists.NoMemory = codes "no memory"

abbrev pub list_name : Which → List ℕ
list_name Access = codes "access list: "
list_name Default = codes "default list: "

-- ---- texts

abbrev pub kind_text : FaultKind → List ℕ
kind_text kinds.BadTag = codes "bad tag"
kind_text kinds.MissingPerms = codes "permissions missing"
kind_text kinds.UnwantedPerms = codes "permissions not wanted"
kind_text kinds.BadPerms = codes "bad permissions"
kind_text kinds.UnknownUser = codes "unknown user"
kind_text kinds.UnknownGroup = codes "unknown group"
kind_text kinds.BaseEntry = codes "base entry cannot be removed"
kind_text kinds.BadHeader = codes "bad header"
kind_text kinds.MissingHeader = codes "header missing"
kind_text kinds.BadPath = codes "bad path"
kind_text kinds.RepeatedFile = codes "file repeated"
kind_text kinds.BadRow = codes "bad row"
kind_text kinds.BadAttr = codes "bad attribute"
kind_text (kinds.List which fault) = list_name which ++ list_text fault
kind_text kinds.TooMany = codes "too many"
kind_text kinds.NoMemory = codes "no memory"

abbrev pub source_name : Source → List ℕ
source_name Entry = codes "entry "
source_name DefaultEntry = codes "default entry "
source_name TextLine = codes "text line "
source_name AttributeEntry = codes "attribute entry "
source_name Operand = codes "operand "

abbrev pub is_list : FaultKind → Bool
is_list (kinds.List which fault) = true
is_list _ = false

-- the fault of a list as a whole has no place among its entries
abbrev pub is_of_whole_list : TextFault → Bool
is_of_whole_list fault = is_list fault.kind && fault.at == 0

-- the place of a fault in its source, and what is wrong there
abbrev pub placed : Source → TextFault → List ℕ
placed source fault = source_name source ++ decimal fault.at ++ codes ": " ++ kind_text fault.kind

abbrev pub text_fault_text : Source → TextFault → List ℕ
text_fault_text source fault = if is_of_whole_list fault then kind_text fault.kind else placed source fault

-- ---- commands

abbrev pub edit_text : EditFault → List ℕ
edit_text edits.DefaultOnFile = codes "only directories have default lists"
edit_text (edits.List which fault) = list_name which ++ list_text fault
edit_text edits.NoMemory = codes "no memory"

abbrev pub tree_text : TreeFault → List ℕ
tree_text (trees.NoSuchFile path) = path_text path ++ codes ": no such file"
tree_text (trees.NotDirectory path) = path_text path ++ codes ": not a directory"
tree_text (trees.Exists path) = path_text path ++ codes ": exists"
tree_text (trees.IsDirectory path) = path_text path ++ codes ": is a directory"
tree_text (trees.NoSuchUser name) = escaped name ++ codes ": no such user"
tree_text (trees.NoSuchGroup name) = escaped name ++ codes ": no such group"
tree_text trees.NotMember = codes "not a member"
tree_text (trees.Edit path fault) = path_text path ++ codes ": " ++ edit_text fault
tree_text trees.TooMany = codes "too many files"
tree_text trees.AlreadyLoaded = codes "already loaded"
tree_text (trees.Text fault) = placed TextLine fault
tree_text (trees.UserExists name) = escaped name ++ codes ": user exists"
tree_text (trees.UidExists id) = decimal id ++ codes ": user id in use"
tree_text trees.TooManyUsers = codes "too many users"
tree_text trees.NoMemory = codes "no memory"
