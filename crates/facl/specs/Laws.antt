-- What is true of every session: of the lines for which memory runs out.
use Rattle.std.specs.Prelude.{◌≡◌, ◌≢◌, ℕ, Bool, false, List, ◌∷◌, ◌++◌, codes, Result, Ok, Err}
use Rattle.acl_rights.specs.Deciders.{Judging}
use Rattle.acl_rights.specs.declared.indexed.States.{States}
use Rattle.acl_tree.specs.State.{State}
use Rattle.facl_output.specs.declared.fault.LineFault.TheVariants.{NoMemory}
use Rattle.facl_output.specs.declared.fault.RunFault.{RunFault}
use Rattle.facl_script.specs.Units.{ScriptUnit}
use Rattle.facl.specs.Headline.{session_of}
use Rattle.facl.specs.LineParts.{outcome}
use Rattle.facl.specs.Units.{UnitAnswer}

-- no line has as its own fault that memory ran out
abbrev pub NoMemoryIsNoFault : Type 0
NoMemoryIsNoFault = (judge : Judging) (w : States) (u : ScriptUnit) → outcome judge w u ≢ Err NoMemory

-- a line of these messages ends in `: facl: no memory`
pub record SaysNoMemory (err : List ℕ) : Type 0 where
  pub before : List ℕ
  pub after : List ℕ
  pub is : err ≡ before ++ (codes ": facl: no memory" ++ 10 ∷ after)

-- a session that does not say so is the session of a machine whose memory never runs out
abbrev pub NoMemoryIsSaid : Type 0
NoMemoryIsSaid =
    (judge : Judging) (setup : Result State RunFault) (script : List ℕ) (m : ℕ → Bool) (session : UnitAnswer) → session_of judge setup script m ≡ Ok session
    → (SaysNoMemory session.err → ⊥) → session_of judge setup script (λ _. false) ≡ Ok session
