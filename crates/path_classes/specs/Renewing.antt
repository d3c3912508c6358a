-- For inner functions: who can search down to classes, made again where the rows of their labels or the classes above changed.
use Rattle.std.specs.Prelude.{◌≡◌, ◌<◌, ◌≤◌, ◌==◌, ◌&&◌, ◌++◌, ◌∷◌, [], ℕ, Bool, false, true, not, List, map, is_some, length, get_or, Option, None, Some, option_map, IfSome, if◌then◌else◌}
use Rattle.std.specs.List.{AllByRecursion}
use Rattle.std.specs.Option.{option_map_or}
use Rattle.std.specs.FinMap.{find}
use Rattle.acl_names.specs.Paths.{path_cmp, PathOf}
use Rattle.kinds.specs.Kinds.{KindsOf, node_at, count_at, IsNode}
use Rattle.kinds.specs.Numbered.{Kept, Numbers}
use Rattle.kinds.specs.Given.{used_at}
pub use Rattle.kinds.specs.Tagged.{is_one}
use Rattle.path_classes.specs.declared.label_row.LabelRow.{LabelRow}
use Rattle.path_classes.specs.declared.path_class.PathClass.{PathClass}
use Rattle.path_classes.specs.Searching.{searchers}
use Rattle.path_classes.specs.PathClasses.{ClassKinds, search_above, depth_below, kind_at, class_above, AboveKeeps, AreClasses}

-- a class is right but for what it keeps itself
pub record IsLinked (rows : KindsOf LabelRow) (k : ClassKinds) (c : PathClass) : Type 0 where
  pub row : LabelRow
  pub has_row : node_at rows c.kind ≡ Some row
  pub above : AboveKeeps k c.above
  pub depth : c.depth ≡ depth_below k c.above

-- those who can search down to a class, by the class above and the row of the label
abbrev pub IsSearch : KindsOf LabelRow → ClassKinds → PathClass → List Bool → Type 0
IsSearch rows k c s = (row : LabelRow) → node_at rows c.kind ≡ Some row → s ≡ searchers (search_above k c.above) row.row

-- what a class keeps follows from the class above and the row of the label
abbrev pub IsFresh : KindsOf LabelRow → ClassKinds → PathClass → Type 0
IsFresh rows k c = IfSome c.search (IsSearch rows k c)

-- the same of the classes that paths have
abbrev pub AreLinked : KindsOf LabelRow → ClassKinds → Type 0
AreLinked rows k = (n : ℕ) (c : PathClass) → 0 < count_at k n → node_at k n ≡ Some c → IsLinked rows k c

-- what of a class stays while who can search is made again
abbrev pub Shape : Type 0
Shape = ℕ × (Option ℕ × (ℕ × Bool))

abbrev pub shape : PathClass → Shape
shape c = (c.kind, (c.above, (c.depth, is_some c.search)))

abbrev pub shape_at : ClassKinds → ℕ → Option Shape
shape_at k n = option_map shape (node_at k n)

-- a class of a path is right below a class
abbrev pub IsBelow : ClassKinds → ℕ → ℕ → Type 0
IsBelow k n m = (0 < count_at k m) × ((c : PathClass) × ((node_at k m ≡ Some c) × (c.above ≡ Some n)))

-- whether a class is right below another one, if there is one
abbrev pub is_just_below : ℕ → Option PathClass → Bool
is_just_below n None = false
is_just_below n (Some c) = option_map_or (λ a. a == n) c.above false

-- the same of a class of paths, by its number
abbrev pub is_right_below : ClassKinds → ℕ → ℕ → Bool
is_right_below k n m = is_just_below n (used_at k m)

-- these are all the classes of paths right below a class
pub record AreBelow (k : ClassKinds) (n : ℕ) (below : List ℕ) : Type 0 where
  pub all : (m : ℕ) (c : PathClass) → 0 < count_at k m → node_at k m ≡ Some c → c.above ≡ Some n → is_one m below ≡ true
  pub each : AllByRecursion (IsBelow k n) below
  pub few : length below ≤ length k.0

-- the classes that paths have are fresh, but for those that wait; those that did not change are as before
pub record Awaits (rows : KindsOf LabelRow) (before k : ClassKinds) (waiting changed : List ℕ) : Type 0 where
  pub counts : (n : ℕ) → count_at k n ≡ count_at before n
  pub shapes : (n : ℕ) → shape_at k n ≡ shape_at before n
  pub fresh : (n : ℕ) (c : PathClass) → 0 < count_at k n → node_at k n ≡ Some c → is_one n waiting ≡ false → IsFresh rows k c
  pub used : AllByRecursion (λ n. 0 < count_at k n) waiting
  pub same : (n : ℕ) → is_one n changed ≡ false → node_at k n ≡ node_at before n

-- the first class that waits is made again: if it changes, the classes right below it wait after the others
pub record RenewsOne (rows : KindsOf LabelRow) (before old : ClassKinds) (n : ℕ) (waiting changed more_waiting more_changed : List ℕ) (new : ClassKinds) : Type 0 where
  pub below : List ℕ
  pub pushed : more_waiting ≡ waiting ++ below
  pub are : AllByRecursion (IsBelow before n) below
  pub few : length below ≤ length before.0
  pub noted : (m : ℕ) → is_one m more_changed ≡ true → is_one m (n ∷ changed) ≡ true
  pub awaits : (rest : List ℕ) → Awaits rows before old (n ∷ rest) changed → Awaits rows before new (rest ++ below) more_changed

-- a class with who can search down to it made again
pub record IsAgain (rows : KindsOf LabelRow) (k : ClassKinds) (n : ℕ) (x : PathClass) : Type 0 where
  pub class : PathClass
  pub is : node_at k n ≡ Some class
  pub shape : shape x ≡ shape class
  pub fresh : IsFresh rows k x

-- the class of a number is fresh, if there is one
abbrev pub IsFreshAt : KindsOf LabelRow → ClassKinds → ℕ → Type 0
IsFreshAt rows k n = (c : PathClass) → node_at k n ≡ Some c → IsFresh rows k c

abbrev pub IsLinkedAt : KindsOf LabelRow → ClassKinds → ℕ → Type 0
IsLinkedAt rows k n = (c : PathClass) → node_at k n ≡ Some c → IsLinked rows k c

-- a path has a class, which is right but for what it keeps itself
pub record HasLinked (rows : KindsOf LabelRow) (k : ClassKinds) (all : Numbers) (e : PathOf × ℕ) : Type 0 where
  pub class : PathClass
  pub is : node_at k e.1 ≡ Some class
  pub above : class.above ≡ class_above e.0 all
  pub linked : IsLinked rows k class

-- each path has
abbrev pub HaveLinked : KindsOf LabelRow → Kept PathClass → Type 0
HaveLinked rows classes = AllByRecursion (HasLinked rows classes.0 classes.1) classes.1

-- the paths of rows have classes, which are right but for those that wait
pub record FitBut (rows : Kept LabelRow) (classes : Kept PathClass) (waiting : List ℕ) : Type 0 where
  pub kinds : map (λ e. (e.0, kind_at classes.0 e.1)) classes.1 ≡ rows.1
  pub each : HaveLinked rows.0 classes
  pub waits : Awaits rows.0 classes.0 classes.0 waiting []

-- these are classes of paths, all those that keep who can search down to them and whose labels are among some
pub record AreClassesOf (k : ClassKinds) (labels waiting : List ℕ) : Type 0 where
  pub all : (n : ℕ) (c : PathClass) → 0 < count_at k n → node_at k n ≡ Some c → is_some c.search ≡ true → is_one c.kind labels ≡ true → is_one n waiting ≡ true
  pub used : AllByRecursion (λ n. 0 < count_at k n) waiting

-- these are classes of paths, all those that keep who can search down to them
pub record AreSearched (k : ClassKinds) (waiting : List ℕ) : Type 0 where
  pub all : (n : ℕ) (c : PathClass) → 0 < count_at k n → node_at k n ≡ Some c → is_some c.search ≡ true → is_one n waiting ≡ true
  pub used : AllByRecursion (λ n. 0 < count_at k n) waiting

-- the classes that paths have are fresh, and all else of them is as before
pub record AreRenewed (rows : KindsOf LabelRow) (before k : ClassKinds) : Type 0 where
  pub counts : (n : ℕ) → count_at k n ≡ count_at before n
  pub shapes : (n : ℕ) → shape_at k n ≡ shape_at before n
  pub fresh : (n : ℕ) (c : PathClass) → 0 < count_at k n → node_at k n ≡ Some c → IsFresh rows k c

-- a further number is marked
abbrev pub Marks : List Bool → ℕ → List Bool → Type 0
Marks old n new = (m : ℕ) → get_or new m false ≡ (if m == n then true else get_or old m false)

-- whether the class above is marked, if there is one
abbrev pub is_marked_above : List Bool → Option ℕ → Bool
is_marked_above marks None = true
is_marked_above marks (Some n) = get_or marks n false

-- whether a class is not marked, and the one above it is
abbrev pub is_next : List Bool → ℕ → Option PathClass → Bool
is_next marks n None = false
is_next marks n (Some c) = not (get_or marks n false) && is_marked_above marks c.above

-- a class that is marked is fresh, and the one above it is marked; the other classes of paths that keep who can search wait
pub record IsOnce (rows : KindsOf LabelRow) (before k : ClassKinds) (marks : List Bool) (waiting : List ℕ) : Type 0 where
  pub counts : (n : ℕ) → count_at k n ≡ count_at before n
  pub shapes : (n : ℕ) → shape_at k n ≡ shape_at before n
  pub fresh : (n : ℕ) (c : PathClass) → node_at k n ≡ Some c → get_or marks n false ≡ true → IsFresh rows k c
  pub above : (n : ℕ) (c : PathClass) → node_at k n ≡ Some c → get_or marks n false ≡ true → is_marked_above marks c.above ≡ true
  pub all : (n : ℕ) (c : PathClass) → 0 < count_at before n → node_at before n ≡ Some c → is_some c.search ≡ true → get_or marks n false ≡ false → is_one n waiting ≡ true
  pub used : AllByRecursion (λ n. 0 < count_at before n) waiting

-- the first class that waits is searched again and marked after the one above it, or waits after the others
pub record SearchesOne (rows : KindsOf LabelRow) (old : ClassKinds) (n : ℕ) (marks : List Bool) (waiting : List ℕ) (more : List Bool) (more_waiting : List ℕ) (new : ClassKinds) : Type 0 where
  pub later : List ℕ
  pub pushed : more_waiting ≡ waiting ++ later
  pub once : (before : ClassKinds) (rest : List ℕ) → IsOnce rows before old marks (n ∷ rest) → IsOnce rows before new more (rest ++ later)

-- a path has a class, which no other path has
pub record IsOwnClass (classes : Kept PathClass) (p : PathOf) (n : ℕ) : Type 0 where
  pub found : find path_cmp p classes.1 ≡ Some n
  pub alone : count_at classes.0 n ≡ 1

-- rows of the same paths: those of one class have another label, and the labels of the other classes have the rows that they had
pub record Relabels (old : Kept LabelRow) (classes : Kept PathClass) (n kind : ℕ) (new : Kept LabelRow) : Type 0 where
  pub numbers : new.1 ≡ map (λ e. (e.0, if e.1 == n then kind else kind_at classes.0 e.1)) classes.1
  pub there : IsNode new.0 kind
  pub same : (m : ℕ) (c : PathClass) → 0 < count_at classes.0 m → node_at classes.0 m ≡ Some c → (m == n) ≡ false → node_at new.0 c.kind ≡ node_at old.0 c.kind

-- the class of a number has another label, and all else is as it was
pub record HasKind (old : Kept PathClass) (n kind : ℕ) (new : Kept PathClass) : Type 0 where
  pub class : PathClass
  pub is : node_at old.0 n ≡ Some class
  pub nodes : (m : ℕ) → node_at new.0 m ≡ (if m == n then Some (record class { kind = kind }) else node_at old.0 m)
  pub counts : (m : ℕ) → count_at new.0 m ≡ count_at old.0 m
  pub numbers : new.1 ≡ old.1

-- the classes were those of such rows, and paths have the class
pub record AreRelabelled (classes : Kept PathClass) (n kind : ℕ) (new : Kept LabelRow) : Type 0 where
  pub old : Kept LabelRow
  pub were : AreClasses old classes
  pub used : 0 < count_at classes.0 n
  pub relabels : Relabels old classes n kind new
