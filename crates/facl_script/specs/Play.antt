-- What a script makes of a state, whatever its units are answered.
use Rattle.std.specs.Prelude.{ℕ, ◌+◌, Bool, false, ◌||◌, List, [], ◌∷◌, ◌++◌}
use Rattle.facl_script.specs.Units.{ScriptUnit, units_of}

-- What some units write to out and to err, the state they leave, and whether one of them was refused.
-- Where a session counts what it spends, this is also the most that they may cost; else that is 0.
pub record Answer (S : Type 0) : Type 0 where
  pub out : List ℕ
  pub err : List ℕ
  pub state : S
  pub refused : Bool
  pub cost : ℕ

abbrev pub quiet : {S : Type 0} → S → Answer S
quiet state = record { out = []; err = []; state = state; refused = false; cost = 0 }

-- one after the other
abbrev pub joined : {S : Type 0} → Answer S → Answer S → Answer S
joined a b = record { out = a.out ++ b.out; err = a.err ++ b.err; state = b.state; refused = a.refused || b.refused; cost = a.cost + b.cost }

-- What units do in turn. How one is answered goes by whether memory runs out for it, and m gives the numbers of those for which it does.
abbrev pub play : {S : Type 0} → (Bool → ScriptUnit → S → Answer S) → (ℕ → Bool) → List ScriptUnit → S → Answer S
play answered m [] state = quiet state
play answered m (u ∷ us) state = joined (answered (m u.number) u state) (play answered m us (answered (m u.number) u state).state)

-- what a whole script does, by which of its lines ask for a text
abbrev pub session : {S : Type 0} → (List ℕ → Bool) → (Bool → ScriptUnit → S → Answer S) → (ℕ → Bool) → List ℕ → S → Answer S
session asks answered m script state = play answered m (units_of asks script) state
