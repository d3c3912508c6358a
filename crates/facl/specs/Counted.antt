-- What a unit does, with the most verdicts that it costs. For inner functions, and who reads what a run asks for.
use Rattle.std.specs.Prelude.{ℕ, Bool, if◌then◌else◌, List, [], Result, Ok, Err}
use Rattle.acl_rights.specs.Costs.{most_between}
use Rattle.acl_rights.specs.Deciders.{Judging}
use Rattle.acl_rights.specs.declared.indexed.States.{States}
use Rattle.facl_output.specs.declared.fault.LineFault.{LineFault}
use Rattle.facl_output.specs.declared.fault.LineFault.TheVariants.{NoMemory}
use Rattle.facl_script.specs.Forms.{Text}
use Rattle.facl_script.specs.Play as plays
use Rattle.facl_script.specs.Play.{Answer}
use Rattle.facl_script.specs.Units.{ScriptUnit}
use Rattle.facl_tools.specs.Replies.{Reply}
use Rattle.facl.specs.Units as units
use Rattle.facl.specs.Units.{is_silent, loads_by_name, reply, tool_word, words_of_line}

abbrev pub costing : ℕ → units.UnitAnswer → Answer States
costing cost a = record { out = a.out; err = a.err; state = a.state; refused = a.refused; cost = cost }

-- a refused line costs nothing
abbrev pub refused : ℕ → Text → LineFault → States → Answer States
refused number tool fault w = costing 0 (units.refused number tool fault w)

-- an accepted line costs the verdicts that its change can have changed
abbrev pub accepted : ℕ → (loads : Bool) → States → Reply → Answer States
accepted number loads w r = costing (most_between w.now r.state r.user_change) (units.accepted number loads w r)

abbrev pub answer_of : ℕ → Text → States → Result Reply LineFault → Answer States
answer_of number tool w (Ok r) = accepted number (loads_by_name tool) w r
answer_of number tool w (Err fault) = refused number tool fault w

abbrev pub answer_of_words : Judging → ScriptUnit → States → Result (List Text) LineFault → Answer States
answer_of_words judge u w (Ok words) = answer_of u.number (tool_word words) w (reply judge w u.text words)
answer_of_words judge u w (Err fault) = refused u.number [] fault w

-- where memory runs out for a line, the judge may have given the verdicts for its change by then
abbrev pub unless_out_of_memory : Bool → ℕ → States → Answer States → Answer States
unless_out_of_memory ran_out number w a = if ran_out then costing a.cost (units.refused number [] NoMemory w) else a

abbrev pub answered_line : Judging → Bool → ScriptUnit → States → Answer States
answered_line judge ran_out u w = unless_out_of_memory ran_out u.number w (answer_of_words judge u w (words_of_line u.line))

abbrev pub answered : Judging → Bool → ScriptUnit → States → Answer States
answered judge ran_out u w = if is_silent u.line then plays.quiet w else answered_line judge ran_out u w
