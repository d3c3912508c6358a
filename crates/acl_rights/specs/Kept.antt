-- For inner functions: rows of the state from which a line goes.
use Rattle.std.specs.Prelude.{◌≡◌}
use Rattle.acl_people.specs.KnownPeople.{persons}
use Rattle.acl_tree.specs.State.{State}
use Rattle.acl_tree.specs.Reports.{StagedState, Reports}
use Rattle.path_classes.specs.Rows.{Rows}
use Rattle.acl_rights.specs.Rows.{Verdict, rows_of}

-- the rows are those of some state, from which the line goes
pub record GoesFrom (V : Verdict) (rows : Rows) (t : StagedState) : Type 0 where
  pub state : State
  pub rows_are : rows ≡ rows_of V (persons state.people) state.tree.files
  pub reports : Reports state t
