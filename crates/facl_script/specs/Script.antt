-- What a contract sees of a script that is read unit by unit.
use Rattle.std.specs.Prelude.{◌≡◌, ℕ, Bool, false, List, Option, Result, MatchResult}
use Rattle.facl_script.specs.ByteSource.{unread, taken_count, StopsReading}
use Rattle.facl_script.specs.ReadUnit.{FindsUnit}
use Rattle.facl_script.specs.Units.{HasNoUnit}
use Rattle.facl_script.specs.declared.fault.ScriptFault.{ScriptFault}
use Rattle.facl_script.specs.declared.unit.Script.{Script}
use Rattle.facl_script.specs.declared.unit.UnitFound.{UnitFound}

-- what is still to be returned, over what the reader has left
abbrev pub script_left : Script → Option (List ℕ) → Option (List ℕ)
script_left s remaining = unread s.source remaining

-- how many bytes were returned
abbrev pub script_taken : Script → ℕ
script_taken s = taken_count s.source

-- the number of the next line
abbrev pub next_number : Script → ℕ
next_number s = s.number

-- the end was reached
abbrev pub is_over : Script → Bool
is_over s = s.is_over

-- the line of the unit that was read last, if it is within the limit
abbrev pub line_held : Script → List ℕ
line_held s = s.line.items

-- the text of that unit, if it is held
abbrev pub text_held : Script → List ℕ
text_held s = s.text.items

-- The next unit was read, or the end was reached. Or the script stopped within a unit.
abbrev pub ReadsUnit : Result (Option UnitFound) ScriptFault → (List ℕ → Bool) → (old new : Script) (before after : Option (List ℕ)) (failed : Bool) → Type 0
ReadsUnit result asks old new before after failed =
    MatchResult result
    (λ found. FindsUnit asks found (line_held new) (text_held new) (script_left old before) (script_left new after)
    (script_taken old) (script_taken new) (next_number old) (next_number new) × (failed ≡ false))
    (λ fault. StopsReading fault (HasNoUnit asks) old.source new.source before after failed)
