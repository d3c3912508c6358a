-- chmod(1): a mode put into the files of a command.
use Rattle.std.specs.Prelude.{ℕ, List, Bool, option_map, Result, Ok}
use Rattle.acl_edit.specs.Nodes as nodes
use Rattle.acl_names.specs.Paths.{PathOf}
use Rattle.acl_text.specs.Results.{unless}
use Rattle.acl_tree.specs.Files.{Files, Recorded}
use Rattle.acl_tree.specs.Operands.{is_file, first_missing, edit_files}
use Rattle.acl_tree.specs.declared.fault.TreeFault.{TreeFault}
use Rattle.acl_tree.specs.declared.fault.TreeFault.TheVariants.{NoSuchFile}
use Rattle.acl_tree.specs.State.{State}
use Rattle.acl_tree.specs.Causes.{IsAmong, IsMissing}

-- the files of the command with a mode put into them
abbrev pub chmod_all : Bool → List PathOf → ℕ → Recorded → Recorded
chmod_all recursive paths mode tree = record tree { files = edit_files (is_file recursive paths) (λ _ n. nodes.chmod n mode) tree.files }

-- the state after the command, unless an operand is missing
abbrev pub chmod : Bool → List PathOf → ℕ → State → Result State TreeFault
chmod recursive paths mode s = unless (option_map NoSuchFile (first_missing paths s.tree.files)) (Ok (record s { tree = chmod_all recursive paths mode s.tree }))

-- which faults apply, whatever other ones do
abbrev pub Applies : List PathOf → Files → TreeFault → Type 0
Applies paths t (NoSuchFile p) = IsAmong paths p × IsMissing t p
Applies paths t fault = ⊥
