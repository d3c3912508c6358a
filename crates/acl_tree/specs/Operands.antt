-- The files of a command: its operands, and with `recursive` all files below them.
use Rattle.std.specs.Prelude.{◌≡◌, ◌≢◌, List, [], ◌∷◌, Bool, if◌then◌else◌, Option, Some, None, is_some, option_map, map, filter, Result, MatchResult}
use Rattle.std.specs.List.{list_any}
use Rattle.std.specs.Ordering.{eq_by_cmp}
use Rattle.std.specs.FinMap.{find}
use Rattle.acl_names.specs.Paths.{path_cmp, PathOf}
use Rattle.acl_edit.specs.declared.node.Node.{Node}
use Rattle.acl_tree.specs.Files.{Files}
use Rattle.acl_names.specs.Below.{encloses}
use Rattle.acl_tree.specs.declared.fault.TreeFault.{TreeFault}
use Rattle.acl_tree.specs.declared.fault.TreeFault.TheVariants.{NoSuchFile, NoMemory}

-- whether an operand means the file
abbrev pub means : Bool → PathOf → PathOf → Bool
means recursive p q = if recursive then encloses p q else eq_by_cmp path_cmp q p

-- whether a file is one of the command's: they are a set, whatever operands mean a file
abbrev pub is_file : Bool → List PathOf → PathOf → Bool
is_file recursive paths q = list_any (λ p. means recursive p q) paths

-- whether a region means the file: with what is below its paths, or without
abbrev pub in_region : Bool × List PathOf → PathOf → Bool
in_region region q = is_file region.0 region.1 q

-- the first operand that is not recorded
abbrev pub first_missing : List PathOf → Files → Option PathOf
first_missing [] t = None
first_missing (p ∷ ps) t = if is_some (find path_cmp p t) then first_missing ps t else Some p

-- an edit of the files that pass a test
abbrev pub edit_files : (PathOf → Bool) → (PathOf → Node → Node) → Files → Files
edit_files test edit t = map (λ e. (e.0, if test e.0 then edit e.0 e.1 else e.1)) t

-- the fault names that operand
abbrev pub IsMissing : TreeFault → Option PathOf → Type 0
IsMissing fault missing = option_map NoSuchFile missing ≡ Some fault

-- a call looks operands up: none is missing, or the fault names the first missing one, unless memory ran out
abbrev pub LooksUp : {X : Type 0} → Result X TreeFault → Option PathOf → Type 0
LooksUp result missing = MatchResult result (λ _. missing ≡ None) (λ fault. fault ≢ NoMemory → IsMissing fault missing)

-- the files of a command
abbrev pub files_meant : {V : Type 0} → Bool → List PathOf → List (PathOf × V) → List (PathOf × V)
files_meant recursive paths t = filter (λ e. is_file recursive paths e.0) t
