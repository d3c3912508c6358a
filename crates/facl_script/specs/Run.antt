-- How a run over a script ends.
use Rattle.std.specs.Prelude.{◌≡◌, ◌<◌, ◌≤◌, ◌+◌, ℕ, Bool, List, [], ◌∷◌, ◌++◌, length, take, Option, Some, Result, IfSome, MatchResult}
use Rattle.std.specs.Io.KnownBytes.{Consumes}
use Rattle.facl_script.specs.declared.fault.ScriptFault.{ScriptFault}
use Rattle.facl_script.specs.declared.fault.ScriptFault.TheVariants.{Read, Write, TooLong, NoMemory}
use Rattle.facl_script.specs.declared.held.HeldUnit.{HeldUnit}
use Rattle.facl_script.specs.Held.{IsUnitHeld}
use Rattle.facl_script.specs.Limits.{script_limit, chunk_limit}
use Rattle.facl_script.specs.Units.{ScriptUnit, units_of, full_units}
use Rattle.facl_script.specs.Play.{Answer, play, session}
use Rattle.facl_script.specs.Streams.{Moment}
use Rattle.facl_script.specs.Write.{Writes, WritesPart}

-- this is the answer: the state now, what is to be written, and whether the unit is refused; no more was spent than it may cost
pub record IsAnswer {S : Type 0} (a : Answer S) (state : S) (spent spent' : ℕ) (to_out to_err : List ℕ) (refused : Bool) : Type 0 where
  pub state_is : state ≡ a.state
  pub spends : spent' ≤ spent + a.cost
  pub out_is : to_out ≡ a.out
  pub err_is : to_err ≡ a.err
  pub refused_is : refused ≡ a.refused

-- The answer was given: both writers grew by it, and its state is the new one.
pub record IsGiven {S : Type 0} (a : Answer S) (old new : Moment S) : Type 0 where
  pub writes : Writes old.streams new.streams a.out a.err
  pub state_is : new.state ≡ a.state
  pub spends : new.spent ≤ old.spent + a.cost

-- a writer failed in the midst of the answer
pub record Breaks {S : Type 0} (a : Answer S) (old new : Moment S) : Type 0 where
  pub writes : WritesPart old.streams new.streams a.out a.err
  pub state_is : new.state ≡ a.state
  pub spends : new.spent ≤ old.spent + a.cost

-- The unit that is held was answered, as one for which memory ran out or not. Or a writer failed in the midst of its answer.
abbrev pub AnswersUnit : {S : Type 0} → Result Bool ScriptFault → (List ℕ → Bool) → (Bool → ScriptUnit → S → Answer S) → HeldUnit → (old new : Moment S) → Type 0
AnswersUnit result asks answered held old new =
    MatchResult result
    (λ refused. (u : ScriptUnit) → IsUnitHeld asks held u
    → (ran_out : Bool) × IsGiven (answered ran_out u old.state) old new × (refused ≡ (answered ran_out u old.state).refused))
    (λ fault. ((u : ScriptUnit) → IsUnitHeld asks held u → (ran_out : Bool) × Breaks (answered ran_out u old.state) old new) × (fault ≡ Write))

-- The whole script was answered. It was within the limit.
pub record Ends {S : Type 0} (asks : List ℕ → Bool) (answered : Bool → ScriptUnit → S → Answer S) (script : List ℕ) (refused : Bool) (old new : Moment S) : Type 0 where
  pub m : ℕ → Bool
  pub within : length script ≤ script_limit
  pub gives : IsGiven (session asks answered m script old.state) old new
  pub refused_is : refused ≡ (session asks answered m script old.state).refused

-- These units were answered, and no other.
pub record IsAnswered {S : Type 0} (answered : Bool → ScriptUnit → S → Answer S) (units : List ScriptUnit) (old new : Moment S) : Type 0 where
  pub m : ℕ → Bool
  pub gives : IsGiven (play answered m units old.state) old new

-- All units before one were answered, and a writer failed in the midst of that one. Past it, at most a chunk was read.
pub record FailsAt {S : Type 0} (asks : List ℕ → Bool) (answered : Bool → ScriptUnit → S → Answer S) (script : List ℕ) (remaining : Option (List ℕ)) (old new : Moment S) : Type 0 where
  pub m : ℕ → Bool
  pub before : List ScriptUnit
  pub unit : ScriptUnit
  pub after : List ScriptUnit
  pub units : units_of asks script ≡ before ++ unit ∷ after
  pub read : List ℕ
  pub pending : List ℕ
  pub consumes : Consumes (Some script) remaining (read ++ pending)
  pub near : length pending ≤ chunk_limit
  pub units_read : units_of asks read ≡ before ++ unit ∷ []
  pub now : Moment S
  pub answer_so_far : IsGiven (play answered m before old.state) old now
  pub breaks : Breaks (answered (m unit.number) unit now.state) now new

-- The run over a script stopped with this fault: what the reader has left, and what was answered by then.
abbrev pub StopsWith : {S : Type 0} → (List ℕ → Bool) → ScriptFault → (Bool → ScriptUnit → S → Answer S) → (script : List ℕ) (remaining : Option (List ℕ)) (old new : Moment S) → Type 0
-- the units whose last LF was read
StopsWith asks Read answered script remaining old new =
    (read : List ℕ) × Consumes (Some script) remaining read × IsAnswered answered (full_units (units_of asks read)) old new
-- the units whose last LF is within the limit, past which one byte was read
StopsWith asks TooLong answered script remaining old new =
    (more : List ℕ) × (length more ≡ 1) × Consumes (Some script) remaining (take script_limit script ++ more) × (script_limit < length script)
    × IsAnswered answered (full_units (units_of asks (take script_limit script))) old new
-- the units whose last LF is in some beginning of what was read, past which at most a chunk was read
StopsWith asks NoMemory answered script remaining old new =
    (read : List ℕ) × (pending : List ℕ) × Consumes (Some script) remaining (read ++ pending) × (length pending ≤ chunk_limit) × IsAnswered answered (full_units (units_of asks read)) old new
StopsWith asks Write answered script remaining old new = FailsAt asks answered script remaining old new

-- A run over a script, where its bytes are known: all of it was answered, or the run stopped with its fault.
abbrev pub Runs : {S : Type 0} → Result Bool ScriptFault → (List ℕ → Bool) → (Bool → ScriptUnit → S → Answer S) → (before after : Option (List ℕ)) (old new : Moment S) → Type 0
Runs result asks answered before after old new =
    MatchResult result
    (λ refused. IfSome before (λ script. Ends asks answered script refused old new))
    (λ fault. IfSome before (λ script. StopsWith asks fault answered script after old new))
