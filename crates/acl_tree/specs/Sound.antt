-- The facts of every tree. That each list is valid is a fact of every list, by its type.
use Rattle.std.specs.Prelude.{◌≡◌, ◌≤◌, ⊤, [], ◌∷◌, length, true, false, ◌||◌, ◌==◌}
use Rattle.acl_edit.specs.Nodes as nodes
use Rattle.acl_edit.specs.declared.node.Node.{Node}
use Rattle.acl_edit.specs.declared.node.Kind.TheVariants.{Directory}
use Rattle.acl_names.specs.Paths.{PathOf}
use Rattle.acl_tree.specs.Files.{Files, Recorded, max_files}
use Rattle.path_map.specs.Entries.{IsInOrder}
use Rattle.path_map.specs.Below.{holds_below}

-- the root and what has a file below it are directories, and only directories have default lists
pub record IsPlaced (es : Files) (e : PathOf × Node) : Type 0 where
  pub directory : ((length e.0 == 0) || holds_below es e.0) ≡ true → e.1.kind ≡ Directory
  pub default : nodes.IsSound e.1

abbrev pub ArePlaced : Files → Files → Type 0
ArePlaced all [] = ⊤
ArePlaced all (e ∷ es) = IsPlaced all e × ArePlaced all es

-- the files are in path order, there are not too many, there is none before a dump is loaded, and each is placed
pub record IsSoundTree (t : Recorded) : Type 0 where
  pub order : IsInOrder t.files
  pub few : length t.files ≤ max_files
  pub unloaded : t.loaded ≡ false → t.files ≡ []
  pub placed : ArePlaced t.files t.files
