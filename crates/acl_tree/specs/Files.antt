-- The files of a tree: their paths and nodes, in path order.
use Rattle.std.specs.Prelude.{ℕ, List, [], Bool, false, refl}
use Rattle.std.specs.Coded.{Coded, code_by, coded×, coded_ℕ, coded_list, coded_bool}
use Rattle.acl_edit.specs.contracts.node.Node as node_contracts
use Rattle.acl_edit.specs.declared.node.Node.{Node}
use Rattle.acl_names.specs.Paths.{PathOf}

abbrev pub Files : Type 0
Files = List (PathOf × Node)

abbrev pub coded_files : Coded Files
coded_files = coded_list (coded× (coded_list (coded_list coded_ℕ)) node_contracts.the_row.coded)

-- the largest number of files of a tree
abbrev pub max_files : ℕ
max_files = 1048576

-- the recorded files, and whether a dump is loaded
pub record Recorded : Type 0 where
  pub files : Files
  pub loaded : Bool

abbrev pub coded_recorded : Coded Recorded
coded_recorded =
    code_by (Files × Bool) (coded× (coded_list (coded× (coded_list (coded_list coded_ℕ)) node_contracts.the_row.coded)) coded_bool) (λ t. (t.files, t.loaded))
    (λ p. record { files = p.0; loaded = p.1 }) (λ _. refl)

abbrev pub no_files : Recorded
no_files = record { files = []; loaded = false }
