-- A file of a command, as those see it who list it.
use Rattle.std.specs.Prelude.{◌≡◌, ◌≢◌, List, Bool, map, None, Result, MatchResult, refl}
use Rattle.std.specs.Coded.{Coded, code_by, coded×, coded_ℕ, coded_list, coded_bool}
use Rattle.acl_edit.specs.declared.node.Node.{Node}
use Rattle.acl_edit.specs.contracts.node.Node as node_contracts
use Rattle.acl_names.specs.Paths.{PathOf}
use Rattle.acl_tree.specs.Files.{Files}
use Rattle.path_map.specs.Below.{holds_below}
use Rattle.acl_tree.specs.Operands.{first_missing, IsMissing, files_meant}
use Rattle.acl_tree.specs.declared.fault.TreeFault.{TreeFault}
use Rattle.acl_tree.specs.declared.fault.TreeFault.TheVariants.{NoMemory}
use Rattle.acl_tree.specs.declared.selection.Selection.{Selection}

-- a recorded file, and whether another one lies below it
pub record FoundFile : Type 0 where
  pub path : PathOf
  pub node : Node
  pub has_below : Bool

abbrev pub coded_found : Coded FoundFile
coded_found =
    code_by ((PathOf × Node) × Bool) (coded× (coded× (coded_list (coded_list coded_ℕ)) node_contracts.the_row.coded) coded_bool)
    (λ f. ((f.path, f.node), f.has_below)) (λ p. record { path = p.0.0; node = p.0.1; has_below = p.1 }) (λ _. refl)

abbrev pub found_file : Bool → PathOf × Node → FoundFile
found_file has_below e = record { path = e.0; node = e.1; has_below = has_below }

-- files, each with whether another one of all lies below it
abbrev pub found_in : Files → Files → List FoundFile
found_in all es = map (λ e. found_file (holds_below all e.0) e) es

-- the files of a command in path order, each once: its operands, and with `recursive` all files below them
abbrev pub files_found : Bool → List PathOf → Files → List FoundFile
files_found recursive paths t = found_in t (files_meant recursive paths t)

-- A call gives the files of a selection, seen by view, if each operand is recorded; else the first that is not is
-- reported, unless memory ran out.
abbrev pub Selects : {A : Type 0} → (A → List FoundFile) → Selection → Files → Result A TreeFault → Type 0
Selects view s t result =
    MatchResult result (λ found. (view found ≡ files_found s.recursive s.operands.now t) × (first_missing s.operands.now t ≡ None))
    (λ fault. fault ≢ NoMemory → IsMissing fault (first_missing s.operands.now t))
