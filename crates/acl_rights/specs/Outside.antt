-- The part of the tree in which lines changed files since the texts were loaded; outside it all answers are the same. A part is
-- some paths, its tops, with all that is below them.
use Rattle.std.specs.Prelude.{◌≡◌, Bool, true, not, List, filter, None}
use Rattle.std.specs.FinMap.{find}
use Rattle.acl_names.specs.Paths.{path_cmp, PathOf}
use Rattle.acl_people.specs.KnownPeople.{persons}
use Rattle.acl_tree.specs.Files.{Files}
use Rattle.acl_tree.specs.State.{State}
use Rattle.acl_tree.specs.Reports.{StagedState}
use Rattle.acl_tree.specs.declared.user_change.UserChange.TheVariants.{Unchanged}
use Rattle.path_classes.specs.ClassesWithin.{is_inside}
use Rattle.acl_rights.specs.Rows.{Verdict, rows_of}
use Rattle.acl_rights.specs.Verdicts.{rows_granted}

-- whether a path is none of the tops of a part, and below none of them
abbrev pub is_outside : (tops : List PathOf) → PathOf → Bool
is_outside tops p = not (is_inside tops p)

-- the entries outside a part
abbrev pub outside : {A : Type 0} → (tops : List PathOf) → List (PathOf × A) → List (PathOf × A)
outside tops es = filter (λ e. is_outside tops e.0) es

-- each user may do the same outside a part, in two states, with files alone and along their paths
abbrev pub SameOutside : Verdict → (tops : List PathOf) → (before after : State) → Type 0
SameOutside V tops before after = (along : Bool) → outside tops (rows_granted V along before) ≡ outside tops (rows_granted V along after)

-- ---- for inner functions

-- with files alone
abbrev pub SameRows : Verdict → (tops : List PathOf) → (before after : State) → Type 0
SameRows V tops before after = outside tops (rows_of V (persons before.people) before.tree.files) ≡ outside tops (rows_of V (persons after.people) after.tree.files)

-- a part holds another one and the paths of some files
abbrev pub Holds : (new old : List PathOf) → Files → Type 0
Holds new old files = (p : PathOf) → is_outside new p ≡ true → (is_outside old p ≡ true) × (find path_cmp p files ≡ None)

-- a path is outside the part from before a line, and the line moves no user and changes no file there
pub record IsKept (p : PathOf) (old : List PathOf) (staged : StagedState) : Type 0 where
  pub outside : is_outside old p ≡ true
  pub users : staged.user_change ≡ Unchanged
  pub changed : find path_cmp p staged.changed ≡ None
  pub gone : find path_cmp p staged.gone ≡ None

abbrev pub HoldsChanges : (new old : List PathOf) → StagedState → Type 0
HoldsChanges new old staged = (p : PathOf) → is_outside new p ≡ true → IsKept p old staged
