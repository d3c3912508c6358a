-- What two writers hold, alone and with a session.
use Rattle.std.specs.Prelude.{ℕ, List, Option}

-- what the two writers hold, where it is known
pub record Streams : Type 0 where
  pub out : Option (List ℕ)
  pub err : Option (List ℕ)

abbrev pub streams : (out err : Option (List ℕ)) → Streams
streams out err = record { out = out; err = err }

-- a moment of a run: the state of its session, what that has spent, and what the two writers hold
pub record Moment (S : Type 0) : Type 0 where
  pub state : S
  pub spent : ℕ
  pub streams : Streams

abbrev pub moment : {S : Type 0} → (state : S) (spent : ℕ) → Streams → Moment S
moment state spent streams = record { state = state; spent = spent; streams = streams }
