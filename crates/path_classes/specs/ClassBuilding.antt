-- For inner functions: classes while files come in path order.
use Rattle.std.specs.Prelude.{◌≡◌, ◌<◌, ⊤, ℕ, Bool, false, List, [], ◌∷◌, ◌++◌, map, slice_get, Option, None, Some}
use Rattle.std.specs.List.{AllByRecursion}
use Rattle.std.specs.Option.{option_or}
use Rattle.acl_names.specs.Paths.{PathOf}
use Rattle.kinds.specs.Kinds.{KindsOf, node_at, count_at, IsNode}
use Rattle.kinds.specs.Numbered.{Numbers}
use Rattle.kinds.specs.Tagged.{is_one, numbers_found}
use Rattle.path_classes.specs.declared.label_row.LabelRow.{LabelRow}
use Rattle.path_classes.specs.declared.path_class.PathClass.{PathClass}
use Rattle.path_classes.specs.PathClasses.{ClassKinds, kind_at, class_above, AboveKeeps, IsRight, HasClassBelow}
use Rattle.path_classes.specs.Walks.{nearest, AllBefore, IsFrom}

-- the class of a label below a class has a number
pub record IsClassOf (k : ClassKinds) (above : Option ℕ) (kind n : ℕ) : Type 0 where
  pub class : PathClass
  pub is : node_at k n ≡ Some class
  pub same_kind : class.kind ≡ kind
  pub same_above : class.above ≡ above

-- it is found among those that are known
pub record IsKnown (k : ClassKinds) (known : List ℕ) (above : Option ℕ) (kind n : ℕ) : Type 0 where
  pub class : IsClassOf k above kind n
  pub place : ℕ
  pub here : slice_get known place ≡ Some n

-- the class of a number is right
abbrev pub IsRightAt : KindsOf LabelRow → ClassKinds → ℕ → Type 0
IsRightAt rows k n = (c : PathClass) × ((node_at k n ≡ Some c) × IsRight rows k c)

-- the class above is right, if there is one
abbrev pub IsRightAbove : KindsOf LabelRow → ClassKinds → Option ℕ → Type 0
IsRightAbove rows k None = ⊤
IsRightAbove rows k (Some n) = IsRightAt rows k n

-- there is a class at the number, if there is a number
abbrev pub IsThere : ClassKinds → Option ℕ → Type 0
IsThere k None = ⊤
IsThere k (Some n) = IsNode k n

-- the classes of some numbers are right
abbrev pub AreRight : KindsOf LabelRow → ClassKinds → List ℕ → Type 0
AreRight rows k numbers = AllByRecursion (IsRightAt rows k) numbers

-- so are those that are counted outside
abbrev pub AreKept : KindsOf LabelRow → (k outside : ClassKinds) → Type 0
AreKept rows k outside = (n : ℕ) → 0 < count_at outside n → IsRightAt rows k n

-- the class of a label below a class has a number that is counted outside
abbrev pub IsKeptClass : (k outside : ClassKinds) → Option ℕ → (kind n : ℕ) → Type 0
IsKeptClass k outside above kind n = IsClassOf k above kind n × (0 < count_at outside n)

-- a class stays, and keeps what it kept
pub record Stays (old new : PathClass) : Type 0 where
  pub kind : new.kind ≡ old.kind
  pub above : new.above ≡ old.above
  pub depth : new.depth ≡ old.depth
  pub search : (s : List Bool) → old.search ≡ Some s → new.search ≡ Some s

-- all classes stay
abbrev pub Grows : (old new : ClassKinds) → Type 0
Grows old new = (n : ℕ) (c : PathClass) → node_at old n ≡ Some c → (d : PathClass) × ((node_at new n ≡ Some d) × Stays c d)

-- all classes stay, those that are right stay so, and no path is counted
pub record Widens (rows : KindsOf LabelRow) (old new : ClassKinds) : Type 0 where
  pub grows : Grows old new
  pub right : (n : ℕ) → IsRightAt rows old n → IsRightAt rows new n
  pub counts : (n : ℕ) → count_at new n ≡ count_at old n

-- classes stay the same, but for those of some numbers
abbrev pub SameClassesBut : List ℕ → (old new : ClassKinds) → Type 0
SameClassesBut numbers old new = (n : ℕ) (c : PathClass) → node_at old n ≡ Some c → is_one n numbers ≡ false → node_at new n ≡ Some c

-- a class that keeps who can search down to it, in the place of one
pub record Fills (rows : KindsOf LabelRow) (k : ClassKinds) (old new : PathClass) : Type 0 where
  pub stays : Stays old new
  pub search : List Bool
  pub kept : new.search ≡ Some search
  pub right : IsRight rows k new

-- a class above, if there is one, keeps who can search down to it
pub record Keeps (rows : KindsOf LabelRow) (old : ClassKinds) (above : Option ℕ) (new : ClassKinds) : Type 0 where
  pub widens : Widens rows old new
  pub keeps : AboveKeeps new above
  pub others : SameClassesBut (numbers_found (above ∷ [])) old new

-- the class of a label below a class is found or added
pub record Finds (rows : KindsOf LabelRow) (old : ClassKinds) (above : Option ℕ) (kind : ℕ) (new : ClassKinds) (n : ℕ) : Type 0 where
  pub widens : Widens rows old new
  pub class : IsClassOf new above kind n
  pub right : IsRightAt rows new n
  pub others : SameClassesBut (numbers_found (above ∷ [])) old new

-- the last paths with their classes lead to those above the next paths
pub record LeadsTo (made rest : Numbers) (stack : Numbers) : Type 0 where
  pub ahead : (p : PathOf) → IsFrom p rest → AllBefore p stack
  pub nearest : (p : PathOf) → IsFrom p rest → nearest p stack ≡ nearest p made

-- each of some paths has a class, below that of the nearest of them above it; where none of them is, below a given class
abbrev pub HaveClasses : KindsOf LabelRow → ClassKinds → Option ℕ → (made all : Numbers) → Type 0
HaveClasses rows k over made all = AllByRecursion (λ e. HasClassBelow rows k (option_or (class_above e.0 made) over) e.1) all

-- some of all paths have classes; the rest is still to come
pub record AreMade (rows : KindsOf LabelRow) (all : Numbers) (over : Option ℕ) (first k : ClassKinds) (made rest stack : Numbers) : Type 0 where
  pub widens : Widens rows first k
  pub kinds : map (λ e. (e.0, kind_at k e.1)) made ++ rest ≡ all
  pub each : HaveClasses rows k over made made
  pub placed : AllByRecursion (λ e. IsRightAt rows k e.1) stack
  pub leads : LeadsTo made rest stack

-- all of them have
pub record AreWalked (rows : KindsOf LabelRow) (all : Numbers) (over : Option ℕ) (first k : ClassKinds) (made : Numbers) : Type 0 where
  pub widens : Widens rows first k
  pub kinds : map (λ e. (e.0, kind_at k e.1)) made ≡ all
  pub each : HaveClasses rows k over made made
