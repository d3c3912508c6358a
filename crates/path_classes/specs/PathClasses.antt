-- Path classes: what files have in common that have one label and lie below directories of one class.
use Rattle.std.specs.Prelude.{◌≡◌, ⊤, ℕ, suc, Bool, List, [], map, Option, None, Some, option_map, IfSome}
use Rattle.std.specs.List.{AllByRecursion}
use Rattle.std.specs.Option.{option_map_or, unwrap_or}
use Rattle.acl_names.specs.Paths.{PathOf}
use Rattle.path_map.specs.Below.{nearest_above}
use Rattle.kinds.specs.Kinds.{KindsOf, node_at}
use Rattle.kinds.specs.Numbered.{Kept, Numbers}
use Rattle.path_classes.specs.declared.label_row.LabelRow.{LabelRow}
use Rattle.path_classes.specs.declared.path_class.PathClass.{PathClass}
use Rattle.path_classes.specs.Searching.{searchers}

-- ---- classes by their numbers

abbrev pub ClassKinds : Type 0
ClassKinds = KindsOf PathClass

-- who can search down to a class, where it keeps that
abbrev pub kept_search : Option PathClass → Option (List Bool)
kept_search None = None
kept_search (Some c) = c.search

abbrev pub search_at : ClassKinds → ℕ → List Bool
search_at k n = unwrap_or (kept_search (node_at k n)) []

-- who gets through the class above, if there is one
abbrev pub search_above : ClassKinds → Option ℕ → Option (List Bool)
search_above k above = option_map (search_at k) above

abbrev pub depth_at : ClassKinds → ℕ → ℕ
depth_at k n = option_map_or (λ c. c.depth) (node_at k n) 0

-- how many directories are above a file right below a class, or below none
abbrev pub depth_below : ClassKinds → Option ℕ → ℕ
depth_below k None = 0
depth_below k (Some n) = suc (depth_at k n)

abbrev pub kind_at : ClassKinds → ℕ → ℕ
kind_at k n = option_map_or (λ c. c.kind) (node_at k n) 0

-- a class above keeps who can search down to it
abbrev pub AboveKeeps : ClassKinds → Option ℕ → Type 0
AboveKeeps k None = ⊤
AboveKeeps k (Some n) = (s : List Bool) × (kept_search (node_at k n) ≡ Some s)

-- a class is right: its label has a row, the class above keeps who can search, and what it keeps itself follows from both
pub record IsRight (rows : KindsOf LabelRow) (k : ClassKinds) (c : PathClass) : Type 0 where
  pub row : LabelRow
  pub has_row : node_at rows c.kind ≡ Some row
  pub above : AboveKeeps k c.above
  pub depth : c.depth ≡ depth_below k c.above
  pub search : IfSome c.search (λ s. s ≡ searchers (search_above k c.above) row.row)

-- ---- classes of paths

-- the class of the nearest of some paths that are above a path
abbrev pub class_above : PathOf → Numbers → Option ℕ
class_above p numbers = option_map (λ e. e.1) (nearest_above p numbers)

-- a number has a class, which is right, below a class or below none
pub record HasClassBelow (rows : KindsOf LabelRow) (k : ClassKinds) (over : Option ℕ) (n : ℕ) : Type 0 where
  pub class : PathClass
  pub is : node_at k n ≡ Some class
  pub above : class.above ≡ over
  pub right : IsRight rows k class

-- a path has a class: it is right, and the class above is that of the nearest path above
abbrev pub HasClass : KindsOf LabelRow → ClassKinds → Numbers → PathOf × ℕ → Type 0
HasClass rows k all e = HasClassBelow rows k (class_above e.0 all) e.1

-- the paths of rows have classes: each path's class has the number of the path's label
pub record AreClasses (rows : Kept LabelRow) (classes : Kept PathClass) : Type 0 where
  pub kinds : map (λ e. (e.0, kind_at classes.0 e.1)) classes.1 ≡ rows.1
  pub each : AllByRecursion (HasClass rows.0 classes.0 classes.1) classes.1
