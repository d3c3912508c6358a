-- The states that the lines of a script see: the one after the texts were loaded, and the present one.
use Rattle.std.specs.Prelude.{ℕ, Bool, if◌then◌else◌, Option, IfSome, refl}
use Rattle.std.specs.Coded.{Coded, code_by, coded×, coded_option}
use Rattle.std.specs.Option.{option_map_or}
use Rattle.acl_tree.specs.State.{State, coded_state}
use Rattle.acl_tree.specs.Reports.{StagedState, Reports}
use Rattle.acl_tree.specs.declared.user_change.UserChange.TheVariants.{Unchanged}
use Rattle.acl_rights.specs.Costs.{most_between}
use Rattle.acl_rights.specs.declared.indexed.States.{States}

-- both, before the first line
abbrev pub from_start : State → States
from_start s = record { loaded = s; now = s }

-- both after an accepted line: a load begins again
abbrev pub states_after : (loads : Bool) → States → (new : State) → States
states_after loads w new = record { loaded = if loads then new else w.loaded; now = new }

-- the present state, and the one after the texts were loaded, where that may be another one
pub record StatePair : Type 0 where
  pub state : State
  pub loaded : Option State

abbrev pub coded_pair : Coded StatePair
coded_pair = code_by (State × Option State) (coded× coded_state (coded_option coded_state)) (λ w. (w.state, w.loaded)) (λ p. record { state = p.0; loaded = p.1 }) (λ _. refl)

-- the state after the texts were loaded
abbrev pub loaded_state : StatePair → State
loaded_state w = option_map_or (λ loaded. loaded) w.loaded w.state

abbrev pub states_in : StatePair → States
states_in w = record { loaded = loaded_state w; now = w.state }

-- the next state, if there is one, was prepared from this one
abbrev pub IsPrepared : State → Option StagedState → Type 0
IsPrepared s staged = IfSome staged (Reports s)

-- the state after a line: the prepared one, if there is one
abbrev pub state_after : Option StagedState → State → State
state_after staged old = option_map_or (λ s. s.state) staged old

-- the most verdicts that it costs
abbrev pub most_after : Option StagedState → State → ℕ
most_after staged old = most_between old (state_after staged old) (option_map_or (λ s. s.user_change) staged Unchanged)
