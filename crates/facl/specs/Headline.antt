-- What a run writes: the session of its script. What it asks of the judge is in Asking.
use Rattle.std.specs.Prelude.{◌≡◌, ◌≤◌, ℕ, Bool, true, false, ◌||◌, List, [], ◌∷◌, ◌++◌, length, Result, Ok}
use Rattle.acl_rights.specs.Deciders.{Judging}
use Rattle.acl_rights.specs.States.{from_start}
use Rattle.acl_rights.specs.declared.indexed.States.{States}
use Rattle.acl_tree.specs.State.{State}
use Rattle.facl_output.specs.declared.fault.RunFault.{RunFault}
use Rattle.facl_script.specs.Limits.{script_limit}
use Rattle.facl_script.specs.Streams.{Streams}
use Rattle.facl_tools.specs.TextWords.{line_asks}
use Rattle.facl_script.specs.Units.{ScriptUnit, units_of}
use Rattle.facl_script.specs.Write.{Writes}
use Rattle.facl.specs.Units.{UnitAnswer, answered, quiet}
use Rattle.facl.specs.declared.status.Status.{Status}
use Rattle.facl.specs.declared.status.Status.TheVariants.{Accepted, Refused}
use Rattle.acl_text.specs.Results.{◌>>=◌}

-- one after the other
abbrev pub joined : UnitAnswer → UnitAnswer → UnitAnswer
joined a b = record { out = a.out ++ b.out; err = a.err ++ b.err; state = b.state; refused = a.refused || b.refused }

-- what units do in turn; m gives the numbers of those for which memory runs out
abbrev pub play : Judging → (m : ℕ → Bool) → List ScriptUnit → States → UnitAnswer
play judge m [] w = quiet w
play judge m (u ∷ us) w = joined (answered judge (m u.number) u w) (play judge m us (answered judge (m u.number) u w).state)

-- the session of a script: what its units do in turn, from the state on that the setup gives
abbrev pub session_of : Judging → (setup : Result State RunFault) → (script : List ℕ) → (m : ℕ → Bool) → Result UnitAnswer RunFault
session_of judge setup script m = setup >>= λ start. Ok (play judge m (units_of line_asks script) (from_start start))

-- a line was refused
abbrev pub has_refused : Status → Bool
has_refused Accepted = false
has_refused Refused = true

-- The whole script was answered, but for the lines for which memory ran out: both writers grew by its session.
pub record RunsTo (judge : Judging) (setup : Result State RunFault) (script : List ℕ) (status : Status) (old new : Streams) : Type 0 where
  pub m : ℕ → Bool
  pub session : UnitAnswer
  pub is : session_of judge setup script m ≡ Ok session
  pub within : length script ≤ script_limit
  pub writes : Writes old new session.out session.err
  pub status_is : has_refused status ≡ session.refused
