-- How a run ends by a fault: what was read and written, and what was asked of the judge. What a whole run writes is in
-- Headline.
use Rattle.std.specs.Prelude.{◌≡◌, ◌≤◌, ℕ, List, Option, Result, Ok, Err, ◌⊎◌, IfSome}
use Rattle.acl_tree.specs.State.{State}
use Rattle.facl_script.specs.Run.{StopsWith}
use Rattle.facl_script.specs.Streams.{Streams, streams, moment}
use Rattle.facl_script.specs.declared.fault.ScriptFault.{ScriptFault}
use Rattle.facl_script.specs.declared.fault.ScriptFault.TheVariants as scripts
use Rattle.facl_tools.specs.TextWords.{line_asks}
use Rattle.facl_output.specs.declared.fault.RunFault.{RunFault}
use Rattle.facl_output.specs.declared.fault.RunFault.TheVariants.{Read, Write, Setup, ScriptTooLong, NoMemory}
use Rattle.acl_rights.specs.Deciders.{Judging}
use Rattle.acl_rights.specs.Costs.{all_pairs}
use Rattle.acl_rights.specs.declared.indexed.States.{States}
use Rattle.acl_rights.specs.States.{from_start}
use Rattle.facl.specs.Counted.{answered}

-- what the reader has left, and what the two writers hold, where it is known
pub record Devices : Type 0 where
  pub remaining : Option (List ℕ)
  pub streams : Streams

abbrev pub devices : (remaining out err : Option (List ℕ)) → Devices
devices remaining out err = record { remaining = remaining; streams = streams out err }

-- nothing was read and nothing written
pub record IsUntouched (old new : Devices) : Type 0 where
  pub reads : new.remaining ≡ old.remaining
  pub writes_out : new.streams.out ≡ old.streams.out
  pub writes_err : new.streams.err ≡ old.streams.err

-- The run started at this state, and its script stopped so: the judge gave no more verdicts than on every user and
-- every file at the start, and what each unit costs that was read.
pub record Stops (fault : ScriptFault) (judge : Judging) (initial_state : Result State RunFault) (asked : ℕ) (old new : Devices) : Type 0 where
  pub start : State
  pub starts : initial_state ≡ Ok start
  pub states : States
  pub stops : IfSome old.remaining (λ script. StopsWith line_asks fault (answered judge) script new.remaining
      (moment (from_start start) (all_pairs start) old.streams) (moment states asked new.streams))

-- the most verdicts that the judge gives before the script is read: on every user and every file of the state that the
-- setup gives, and none where it gives none
abbrev pub most_at_start : Result State RunFault → ℕ
most_at_start (Ok start) = all_pairs start
most_at_start (Err fault) = 0

-- memory ran out before the script was read
pub record EndsEarly (initial_state : Result State RunFault) (asked : ℕ) (old new : Devices) : Type 0 where
  pub untouched : IsUntouched old new
  pub asks : asked ≤ most_at_start initial_state

-- How a run that returns a fault has ended. Before the script nothing is read or written.
abbrev pub EndsBy : RunFault → Judging → Result State RunFault → (asked : ℕ) (old new : Devices) → Type 0
EndsBy (Setup which fault) judge initial_state asked old new =
    (initial_state ≡ Err (Setup which fault)) × (asked ≡ 0) × IsUntouched old new
EndsBy NoMemory judge initial_state asked old new =
    EndsEarly initial_state asked old new ⊎ Stops scripts.NoMemory judge initial_state asked old new
EndsBy Read judge initial_state asked old new = Stops scripts.Read judge initial_state asked old new
EndsBy Write judge initial_state asked old new = Stops scripts.Write judge initial_state asked old new
EndsBy ScriptTooLong judge initial_state asked old new = Stops scripts.TooLong judge initial_state asked old new
