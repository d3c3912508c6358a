-- When words are refused.
use Rattle.std.specs.Prelude.{◌≡◌, ◌⊎◌, Option, None}
use Rattle.clap.specs.declared.error.kind.ErrorKind.{ErrorKind}
use Rattle.clap.specs.declared.error.kind.ErrorKind.TheVariants as kind
use Rattle.facl_script.specs.declared.tool_fault.WordsFault.{WordsFault}
use Rattle.facl_script.specs.declared.tool_fault.WordsFault.TheVariants.{NoMemory, Usage}

-- each of clap's refusals but that for memory is usage
abbrev pub fault_by : ErrorKind → WordsFault
fault_by kind.OutOfMemory = NoMemory
fault_by _ = Usage

-- memory ran out, or the words mean nothing
abbrev pub IsRefusal : {X : Type 0} → Option X → WordsFault → Type 0
IsRefusal meaning fault = (fault ≡ NoMemory) ⊎ ((fault ≡ Usage) × (meaning ≡ None))
