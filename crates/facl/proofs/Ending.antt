-- How a run ends that stops in its script.
use Rattle.std.proofs.Common.{◌≡◌, ℕ, Result, Ok, inr, subst}
use Rattle.std.specs.Prelude.{IfSome}
use Rattle.acl_tree.specs.State.{State}
use Rattle.facl_script.specs.Run.{StopsWith}
use Rattle.facl_script.specs.Streams.{moment}
use Rattle.facl_script.specs.declared.fault.ScriptFault.{ScriptFault}
use Rattle.facl_script.specs.declared.fault.ScriptFault.TheVariants.{Read, Write, TooLong, NoMemory}
use Rattle.facl_tools.specs.TextWords.{line_asks}
use Rattle.facl_output.specs.Faults.{run_fault_of_script}
use Rattle.facl_output.specs.declared.fault.RunFault.{RunFault}
use Rattle.acl_rights.specs.Deciders.{Judging}
use Rattle.acl_rights.specs.Costs.{all_pairs}
use Rattle.acl_rights.specs.declared.indexed.States.{States}
use Rattle.acl_rights.specs.States.{from_start}
use Rattle.facl.specs.Counted.{answered}
use Rattle.facl.specs.Runs.{Devices, EndsBy}

end_of_run : (fault : ScriptFault) (judge : Judging) (initial_state : Result State RunFault) (start : State) (states : States) (asked : ℕ) (old new : Devices)
    → initial_state ≡ Ok start → IfSome old.remaining
    (λ script. StopsWith line_asks fault (answered judge) script new.remaining (moment (from_start start) (all_pairs start) old.streams) (moment states asked new.streams))
    → EndsBy (run_fault_of_script fault) judge initial_state asked old new
end_of_run Read judge initial_state start states asked old new e h = record { start = start; starts = e; states = states; stops = h }
end_of_run Write judge initial_state start states asked old new e h = record { start = start; starts = e; states = states; stops = h }
end_of_run TooLong judge initial_state start states asked old new e h = record { start = start; starts = e; states = states; stops = h }
end_of_run NoMemory judge initial_state start states asked old new e h = inr (record { start = start; starts = e; states = states; stops = h })

-- a script that stopped, of which all pairs were judged by its start
pub ends_by : (fault : ScriptFault) (judge : Judging) (initial_state : Result State RunFault) (start : State) (first states : States) (asked asked' : ℕ) (old new : Devices)
    → initial_state ≡ Ok start → first ≡ from_start start → asked ≡ all_pairs start
    → IfSome old.remaining (λ script. StopsWith line_asks fault (answered judge) script new.remaining (moment first asked old.streams) (moment states asked' new.streams))
    → EndsBy (run_fault_of_script fault) judge initial_state asked' old new
ends_by fault judge initial_state start first states asked asked' old new e starts pairs h =
    end_of_run fault judge initial_state start states asked' old new e
    (subst (λ w. IfSome old.remaining (λ script. StopsWith line_asks fault (answered judge) script new.remaining (moment w (all_pairs start) old.streams) (moment states asked' new.streams))) starts
    (subst (λ n. IfSome old.remaining (λ script. StopsWith line_asks fault (answered judge) script new.remaining (moment first n old.streams) (moment states asked' new.streams))) pairs h))
