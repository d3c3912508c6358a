-- For inner functions: answers of the files of two classes, one of them before rows changed and one of them after.
use Rattle.std.specs.Prelude.{◌≡◌, ℕ, Bool, true, Option, Some, IfSome}
use Rattle.std.specs.Ordering.{nat_cmp}
use Rattle.std.specs.BTreeMap.{get}
use Rattle.kinds.specs.Kinds.{KindsOf, node_at}
use Rattle.path_classes.specs.declared.label_row.LabelRow.{LabelRow}
use Rattle.path_classes.specs.declared.path_class.PathClass.{PathClass}
use Rattle.path_classes.specs.declared.changed_answers.Comparison.{Comparison}
use Rattle.path_classes.specs.declared.changed_answers.Comparisons.{Comparisons}
use Rattle.path_classes.specs.PathClasses.{ClassKinds, search_above}

-- two labels have the same row
pub record SameRow (old new : KindsOf LabelRow) (m n : ℕ) : Type 0 where
  pub was : LabelRow
  pub had : node_at old m ≡ Some was
  pub is : LabelRow
  pub has : node_at new n ≡ Some is
  pub row : was.row ≡ is.row

-- the files of two classes have the same answers: the labels' rows are the same, and the same users get through above
pub record SameReach (old : KindsOf LabelRow) (before : ClassKinds) (new : KindsOf LabelRow) (after : ClassKinds) (m n : ℕ) : Type 0 where
  pub was : PathClass
  pub had : node_at before m ≡ Some was
  pub is : PathClass
  pub has : node_at after n ≡ Some is
  pub rows : SameRow old new was.kind is.kind
  pub search : search_above before was.above ≡ search_above after is.above

-- so have those that had a class and have one
abbrev pub HadSameReach : KindsOf LabelRow → ClassKinds → KindsOf LabelRow → ClassKinds → Option ℕ → ℕ → Type 0
HadSameReach old before new after was n = (m : ℕ) × ((was ≡ Some m) × SameReach old before new after m n)

-- where the files of two classes were found to have the same answers, they have
abbrev pub IsTrueFor : KindsOf LabelRow → ClassKinds → KindsOf LabelRow → ClassKinds → (was is : ℕ) → Bool → Type 0
IsTrueFor old before new after was is same = same ≡ true → SameReach old before new after was is

abbrev pub IsTrueIn : KindsOf LabelRow → ClassKinds → KindsOf LabelRow → ClassKinds → Comparison → Type 0
IsTrueIn old before new after c = IsTrueFor old before new after c.was c.is c.is_same

-- so is all that is kept
pub record AreTrue (old : KindsOf LabelRow) (before : ClassKinds) (new : KindsOf LabelRow) (after : ClassKinds) (cs : Comparisons) : Type 0 where
  pub last : IfSome cs.last (IsTrueIn old before new after)
  pub all : (key : ℕ) → IfSome (get nat_cmp cs.all key) (IsTrueIn old before new after)
