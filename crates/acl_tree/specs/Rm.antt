-- rm: files removed.
use Rattle.std.specs.Prelude.{◌≡◌, false, List, [], ◌∷◌, Bool, not, ◌&&◌, if◌then◌else◌, Option, Some, None, filter, Result, Ok}
use Rattle.std.specs.Option.{option_or}
use Rattle.std.specs.FinMap.{find}
use Rattle.acl_names.specs.Paths.{path_cmp, PathOf}
use Rattle.acl_text.specs.Results.{unless}
use Rattle.acl_edit.specs.Nodes.{is_directory}
use Rattle.acl_edit.specs.declared.node.Kind.TheVariants.{Directory}
use Rattle.acl_edit.specs.declared.node.Node.{Node}
use Rattle.acl_tree.specs.declared.fault.TreeFault.{TreeFault}
use Rattle.acl_tree.specs.declared.fault.TreeFault.TheVariants.{NoSuchFile, IsDirectory}
use Rattle.acl_tree.specs.Files.{Files, Recorded}
use Rattle.acl_tree.specs.Operands.{is_file}
use Rattle.acl_tree.specs.Causes.{IsAmong, IsMissing, IsRecordedAs}

-- why an operand is not removed: without `recursive` directories are not
abbrev pub refusal : Bool → PathOf → Option Node → Option TreeFault
refusal recursive p None = Some (NoSuchFile p)
refusal recursive p (Some n) = if is_directory n.kind && not recursive then Some (IsDirectory p) else None

-- the fault of the first operand that is not removed
abbrev pub first_refused : Bool → List PathOf → Files → Option TreeFault
first_refused recursive [] t = None
first_refused recursive (p ∷ ps) t = option_or (refusal recursive p (find path_cmp p t)) (first_refused recursive ps t)

-- the files that are not the command's
abbrev pub without_files : Bool → List PathOf → Files → Files
without_files recursive paths t = filter (λ e. not (is_file recursive paths e.0)) t

-- the files without the command's, or the first fault
abbrev pub rm : Bool → List PathOf → Recorded → Result Recorded TreeFault
rm recursive paths t = unless (first_refused recursive paths t.files) (Ok (record t { files = without_files recursive paths t.files }))

-- which faults apply, whatever other ones do
abbrev pub Applies : Bool → List PathOf → Files → TreeFault → Type 0
Applies recursive paths t (NoSuchFile p) = IsAmong paths p × IsMissing t p
Applies recursive paths t (IsDirectory p) = IsAmong paths p × (recursive ≡ false) × IsRecordedAs Directory t p
Applies recursive paths t fault = ⊥
