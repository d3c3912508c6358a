-- Classes of the paths at or below some paths, the tops, where all other paths keep theirs.
use Rattle.std.specs.Prelude.{◌≡◌, ⊤, not, Bool, false, List, [], ◌∷◌, map, filter}
use Rattle.std.specs.Borrow.{Bor}
use Rattle.std.specs.List.{AllByRecursion, list_any}
use Rattle.std.specs.Option.{option_or}
use Rattle.acl_names.specs.Paths.{PathOf}
use Rattle.acl_names.specs.Below.{encloses}
use Rattle.path_map.specs.Below.{is_passed}
use Rattle.kinds.specs.Kinds.{node_at}
use Rattle.kinds.specs.Numbered.{Kept, Numbers}
use Rattle.path_classes.specs.declared.label_row.LabelRow.{LabelRow}
use Rattle.path_classes.specs.declared.path_class.PathClass.{PathClass}
use Rattle.path_classes.specs.PathClasses.{ClassKinds, kind_at, class_above, HasClassBelow, AreClasses}
use Rattle.path_classes.specs.ClassBuilding.{Widens}

-- borrowed paths
abbrev pub paths_seen : List (Bor PathOf) → List PathOf
paths_seen ps = map (λ p. p.now) ps

-- whether a path is one of some, or below one
abbrev pub is_inside : List PathOf → PathOf → Bool
is_inside tops p = list_any (λ t. encloses t p) tops

-- the entries at or below some paths, and the others
abbrev pub inside : {V : Type 0} → List PathOf → List (PathOf × V) → List (PathOf × V)
inside tops es = filter (λ e. is_inside tops e.0) es

abbrev pub outside : {V : Type 0} → List PathOf → List (PathOf × V) → List (PathOf × V)
outside tops es = filter (λ e. not (is_inside tops e.0)) es

-- each path is after those before it, and below none of them
abbrev pub AreTops : List PathOf → Type 0
AreTops [] = ⊤
AreTops (t ∷ ts) = AllByRecursion (λ s. is_passed t s ≡ false) ts × AreTops ts

-- the paths outside have the classes of their labels, by the rows as they are now
abbrev pub FitOutside : Kept LabelRow → List PathOf → Kept PathClass → Type 0
FitOutside rows tops classes = AreClasses (rows.0, outside tops rows.1) (classes.0, outside tops classes.1)

-- rows where the paths outside have the labels that they had, and these have their rows
pub record ChangesInside (old : Kept LabelRow) (tops : List PathOf) (new : Kept LabelRow) : Type 0 where
  pub numbers : outside tops new.1 ≡ outside tops old.1
  pub rows : AllByRecursion (λ e. node_at new.0 e.1 ≡ node_at old.0 e.1) (outside tops old.1)

-- the paths inside have classes, found by those of the paths outside; no path is counted
pub record AreFound (rows : Kept LabelRow) (tops : List PathOf) (out : Numbers) (first k : ClassKinds) (made : Numbers) : Type 0 where
  pub widens : Widens rows.0 first k
  pub kinds : map (λ e. (e.0, kind_at k e.1)) made ≡ inside tops rows.1
  pub each : AllByRecursion (λ e. HasClassBelow rows.0 k (option_or (class_above e.0 made) (class_above e.0 out)) e.1) made
