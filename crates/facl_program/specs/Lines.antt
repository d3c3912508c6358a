-- The faults of the program, the line that it prints of each, and the status that it ends with.
use Rattle.std.specs.Prelude.{◌≡◌, ◌⊎◌, ℕ, Bool, true, false, List, [], ◌∷◌, ◌++◌, Option, Result, Ok, Err, codes, string_bytes, if◌then◌else◌}
use Rattle.std.specs.Io.KnownBytes.{Appends}
use Rattle.std.specs.declared.io.ErrorKind.{ErrorKind}
use Rattle.std.specs.declared.io.ErrorKind.TheVariants.{OutOfMemory}
use Rattle.facl.specs.Headline.{has_refused}
use Rattle.facl.specs.declared.status.Status.{Status}
use Rattle.facl.specs.facl_output.Messages.{run_fault_text}
use Rattle.facl.specs.facl_output.declared.fault.RunFault.TheVariants.{Setup}
use Rattle.facl_script.specs.declared.tool_fault.WordsFault.{WordsFault}
use Rattle.facl_script.specs.declared.tool_fault.WordsFault.TheVariants as words
use Rattle.facl_program.specs.declared.fault.ProgramFault.{ProgramFault}
use Rattle.facl_program.specs.declared.fault.ProgramFault.TheVariants.{Usage, CannotRead, Run, NoMemory}

-- the fault of words that are refused
abbrev pub fault_by_words : WordsFault → ProgramFault
fault_by_words words.Usage = Usage
fault_by_words words.NoMemory = NoMemory

-- the system ran out of memory
abbrev pub ran_out_of_memory : ErrorKind → Bool
ran_out_of_memory OutOfMemory = true
ran_out_of_memory kind = false

abbrev pub fault_text : ProgramFault → List ℕ
fault_text Usage = codes "usage"
fault_text (CannotRead file) = string_bytes file ++ codes ": cannot read"
fault_text (Run fault) = run_fault_text fault
fault_text NoMemory = codes "no memory"

-- the line of a text
abbrev pub line_of : List ℕ → List ℕ
line_of text = codes "facl: " ++ text ++ 10 ∷ []

abbrev pub fault_line : ProgramFault → List ℕ
fault_line fault = line_of (fault_text fault)

-- the line of a file that cannot be read
abbrev pub unread_line : List ℕ → List ℕ
unread_line file = line_of (file ++ codes ": cannot read")

-- the line of the fault is composed in an allocated buffer: only that of a fault of the setup is
abbrev pub is_composed : ProgramFault → Bool
is_composed (Run (Setup which fault)) = true
is_composed fault = false

-- The fault's line is added. Only where it is composed in an allocated buffer may that of `no memory` be added in its
-- place.
abbrev pub IsLineReported : ProgramFault → (err err' : Option (List ℕ)) → Type 0
IsLineReported fault err err' = Appends err err' (fault_line fault) ⊎ ((is_composed fault ≡ true) × Appends err err' (fault_line NoMemory))

-- 1 where a line was refused, 2 at a fault of the program, else 0
abbrev pub status_of : Result Status ProgramFault → ℕ
status_of (Ok status) = if has_refused status then 1 else 0
status_of (Err fault) = 2

-- At a fault its line is added, or the writer has failed; else nothing is.
abbrev pub IsReported : Result Status ProgramFault → (err err' : Option (List ℕ)) → Bool → Type 0
IsReported (Ok status) err err' failed = err' ≡ err
IsReported (Err fault) err err' failed = IsLineReported fault err err' ⊎ (failed ≡ true)
