-- What a contract sees of a session: its states, and the output and the message of the last line.
use Rattle.std.specs.Prelude.{◌≡◌, ℕ, Bool, false, if◌then◌else◌, List, []}
use Rattle.facl_script.specs.Play.{Answer}
use Rattle.facl_script.specs.Run.{IsAnswer}
use Rattle.facl.specs.declared.session.FaclSession.{FaclSession}
use Rattle.acl_rights.specs.declared.indexed.States.{States}
use Rattle.acl_rights.specs.States.{states_in}
use Rattle.facl.specs.Counted.{unless_out_of_memory}

abbrev pub states_of : {J : Type 0} → FaclSession J → States
states_of f = states_in f.indexed_states

abbrev pub out_of : {J : Type 0} → FaclSession J → List ℕ
out_of f = f.out.items

-- memory ran out for the last line
abbrev pub ran_out_of_memory : {J : Type 0} → FaclSession J → Bool
ran_out_of_memory f = f.lacks_memory

abbrev pub err_of : {J : Type 0} → FaclSession J → List ℕ
err_of f = if f.lacks_memory then f.reserved_message else f.err.items

-- nothing is printed yet, and there is no message
pub record IsQuiet {J : Type 0} (f : FaclSession J) : Type 0 where
  pub out : f.out.items ≡ []
  pub err : f.err.items ≡ []
  pub memory : f.lacks_memory ≡ false

-- The session gives this answer to a line, or that memory ran out for it: it is at the answer's states, with its output
-- and its message, the judge gave no more verdicts than it costs, and the line is refused where the answer is.
abbrev pub Answers : {J : Type 0} → (number : ℕ) → Answer States → (old new : FaclSession J) → (asked asked' : ℕ) → (is_refused : Bool) → Type 0
Answers number a old new asked asked' is_refused =
    IsAnswer (unless_out_of_memory (ran_out_of_memory new) number (states_of old) a) (states_of new) asked asked' (out_of new) (err_of new) is_refused
